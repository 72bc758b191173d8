use Rattle.std.proofs.Common.{◌≡◌, filter, take}
use Rattle.dr_site.specs.Parts.{ends_at}
use Rattle.dr_site.proofs.rows.hops_ending_at.Given as goal

abbrev pub invariant-loop-hop : goal.invariant-loop-hop
invariant-loop-hop l = l.own ≡ filter (ends_at l.node) (take l.hop-index l.hops)
