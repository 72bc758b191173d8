use Rattle.std.proofs.Common.{◌≡◌, take}
use Rattle.dr_plan_model.specs.declared.plan.Flow.{Flow}
use Rattle.dr_cert_lint.proofs.Looking.{NoneOf}
use Rattle.dr_cert_lint.proofs.flows.is_among.Given as goal

abbrev pub invariant-loop-other : goal.invariant-loop-other
invariant-loop-other l = NoneOf (λ (flow : Flow). flow ≡ l.fn.flow) (take l.other-index l.fn.flows)
