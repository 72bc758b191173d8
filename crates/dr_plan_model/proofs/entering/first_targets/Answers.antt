use Rattle.std.proofs.Common.{◌↔◌, subst, List, Contains}
use Rattle.dr_plan_model.specs.declared.plan.Flow.{Flow}
use Rattle.dr_plan_model.specs.Walks.{FlowsAmong}
use Rattle.dr_plan_model.proofs.entering.first_targets.Goals as goal

pub returns-clause-to : goal.returns-clause-to
returns-clause-to c = λ name.
    let P : List Flow → Type 0 = λ fs. Contains c.in_ok-to.to name ↔ FlowsAmong fs c.args.site.now c.args.key.now name in
    subst P c.flows.ensures.same (c.in_ok-to.ensures.to name)
