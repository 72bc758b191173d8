use Rattle.std.proofs.Common.{Contains, take}
use Rattle.dr_plan_model.specs.declared.plan.Flow.{Flow}
use Rattle.dr_cert_lint.proofs.Looking.{NoneOf}
use Rattle.dr_cert_lint.proofs.flows.brings.Given as goal

abbrev pub invariant-loop-flow : goal.invariant-loop-flow
invariant-loop-flow l = NoneOf (λ (flow : Flow). Contains flow.classes l.fn.class) (take l.flow-index l.fn.flows)
