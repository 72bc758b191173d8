use Rattle.std.proofs.Common.{◌≡◌, filter, take}
use Rattle.dr_site.specs.Parts.{begins_at}
use Rattle.dr_site.proofs.rows.unsorted_hops_from.Given as goal

abbrev pub invariant-loop-hop : goal.invariant-loop-hop
invariant-loop-hop l = l.own.items ≡ filter (begins_at l.node) (take l.hop-index l.hops)
