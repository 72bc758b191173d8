-- Hops whose texts stand elsewhere.
use Rattle.dr_world_audit.specs.declared.hop.AuditHop.{AuditHop as Held}
use Rattle.dr_world_audit.specs.declared.place.HopForm.{HopForm}
use Rattle.dr_world_audit.specs.declared.place.HopForm.TheVariants as form

-- the hop that is held so
abbrev pub hop_seen : HopForm → Held
hop_seen (form.Line from to instance) = record {
  uid = instance.now.uid;
  from = from.now;
  to = to.now;
  key = instance.now.key;
  size = instance.now.size;
  digest = instance.now.digest;
}
hop_seen (form.Own hop) = hop.value
