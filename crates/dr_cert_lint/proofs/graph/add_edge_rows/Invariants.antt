use Rattle.std.proofs.Common.{◌≡◌, ◌++◌, take}
use Rattle.std.specs.Prelude.{flat_map}
use Rattle.dr_cert_lint.specs.Graphs.{edge_row}
use Rattle.dr_cert_lint.proofs.graph.add_edge_rows.Given as goal

abbrev pub invariant-loop-edge : goal.invariant-loop-edge
invariant-loop-edge l = l.out.items ≡ l.initial.out.items ++ flat_map edge_row (take l.edge-index l.edges)
