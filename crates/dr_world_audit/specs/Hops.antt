-- Hops as they are held.
use Rattle.std.specs.Prelude.{◌≡◌, List, ◌++◌, map as mapped}
use Rattle.dr_world_audit.specs.declared.hop.AuditHop.{AuditHop as Held}
use Rattle.dr_world_audit.specs.declared.trail.Trail.{Trail}
use Rattle.dr_world_journals.specs.Hops.{Hop}

-- the hop as it is held
abbrev pub hop_of : Hop → Held
hop_of hop = record {
  from = hop.0;
  to = hop.1;
  uid = hop.2.uid;
  key = hop.2.key;
  size = hop.2.size;
  digest = hop.2.digest;
}

-- the hops as they are held
abbrev pub held : List Hop → List Held
held hops = mapped hop_of hops

-- these hops are added at the end
abbrev pub grows_by : List Held → List Hop → List Held → Type 0
grows_by old hops new = new ≡ old ++ held hops

-- what came, what is to go on and what was answered with success is noted besides
pub record Notes (old : Trail) (came sent done : List Hop) (new : Trail) : Type 0 where
  pub arrivals : grows_by old.came.items came new.came.items
  pub reasons : grows_by old.sent.items sent new.sent.items
  pub successes : grows_by old.done.items done new.done.items
