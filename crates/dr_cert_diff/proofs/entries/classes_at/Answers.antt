use Rattle.std.proofs.Common.{sym, subst, List, Contains}
use Rattle.dr_plan_model.specs.declared.plan.Flow.{Flow}
use Rattle.dr_cert_diff.proofs.entries.classes_at.Goals as goal

pub returns : goal.returns
returns c =
    let same = c.in_ok-classes.ensures.same in (
      λ flow among at t of. (same t).1 (c.in_ok-add_classes-2.ensures.kept t (c.in_ok-add_classes.ensures.all flow (subst (λ (fs : List Flow). Contains fs flow) (sym c.flows.ensures.same) among) at t of)),
      λ flow among at t of. (same t).1 (c.in_ok-add_classes-2.ensures.all flow (subst (λ (fs : List Flow). Contains fs flow) (sym c.flows-2.ensures.same) among) at t of),
    )
