use Rattle.std.proofs.Common.{take}
use Rattle.dr_cert_lint.specs.Graphs.{IsVertexRow}
use Rattle.dr_cert_lint.proofs.Numbered.{AreAdded}
use Rattle.dr_cert_lint.proofs.graph.add_vertices.Given as goal

abbrev pub invariant-loop-node : goal.invariant-loop-node
invariant-loop-node l = AreAdded (λ number. IsVertexRow l.fn.sealed.plan) (take l.node-index l.fn.sealed.plan.nodes) l.initial.out.items l.out.items
