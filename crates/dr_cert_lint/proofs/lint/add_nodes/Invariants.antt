use Rattle.std.proofs.Common.{take}
use Rattle.dr_cert_lint.specs.Findings.{IsNodeText}
use Rattle.dr_cert_lint.proofs.Numbered.{AreAdded}
use Rattle.dr_cert_lint.proofs.lint.add_nodes.Given as goal

abbrev pub invariant-loop-node : goal.invariant-loop-node
invariant-loop-node l = AreAdded (λ number. IsNodeText l.fn.sealed.plan) (take l.node-index l.fn.sealed.plan.nodes) l.initial.out.items l.out.items
