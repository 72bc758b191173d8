use Rattle.std.proofs.Common.{◌≡◌, take}
use Rattle.dr_plan_model.specs.declared.plan.Flow.{Flow}
use Rattle.dr_cert_lint.proofs.Looking.{NoneOf}
use Rattle.dr_cert_lint.proofs.flows.is_entry.Given as goal

abbrev pub invariant-loop-flow : goal.invariant-loop-flow
invariant-loop-flow l = NoneOf (λ (flow : Flow). flow.at ≡ l.fn.name) (take l.flow-index l.fn.flows)
