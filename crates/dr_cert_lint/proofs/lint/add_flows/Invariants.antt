use Rattle.std.proofs.Common.{◌≡◌, take}
use Rattle.std.specs.Prelude.{◌-◌}
use Rattle.dr_cert_lint.specs.Findings.{IsFlowText}
use Rattle.dr_cert_lint.proofs.Numbered.{AreAdded}
use Rattle.dr_cert_lint.proofs.lint.add_flows.Given as goal

abbrev pub invariant-loop-flow : goal.invariant-loop-flow
invariant-loop-flow l = (l.number ≡ l.flow-index) × AreAdded (λ number. IsFlowText (take (number - 1) l.fn.flows) number) (take l.flow-index l.fn.flows) l.initial.out.items l.out.items
