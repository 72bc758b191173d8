use Rattle.std.proofs.Common.{◌≡◌, take}
use Rattle.std.specs.Prelude.{flat_map}
use Rattle.dr_cert_lint.specs.Edges.{edges_at}
use Rattle.dr_cert_lint.proofs.edges.edges_of.Given as goal

abbrev pub invariant-loop-hop : goal.invariant-loop-hop
invariant-loop-hop l = l.edges.items ≡ flat_map (edges_at l.fn.hops) (take l.hop-index l.fn.hops)
