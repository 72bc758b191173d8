-- The order of hops, by which lists of them are sorted.
use Rattle.std.specs.Ordering.{nat_cmp, ordering_then}
use Rattle.std.specs.declared.cmp.Ordering.{Ordering}
use Rattle.dr_base.specs.Texts.{text_cmp}
use Rattle.dr_route.specs.contracts.key.KeyOrd.TheImpl as keys
use Rattle.dr_world_audit.specs.declared.hop.AuditHop.{AuditHop as Held}
use Rattle.dr_world_audit.specs.contracts.hop.AuditHopOrd.TheImpl as hops

-- first by the uid
abbrev pub hop_cmp : Held → Held → Ordering
hop_cmp = hops.cmp-value.it

-- of one uid, by the nodes, the key, the size and the digest
abbrev pub rest_cmp : Held → Held → Ordering
rest_cmp a b =
    ordering_then (text_cmp a.from b.from)
    (ordering_then (text_cmp a.to b.to)
    (ordering_then (keys.cmp-value.it a.key b.key)
    (ordering_then (nat_cmp a.size b.size) (text_cmp a.digest b.digest))))
