use Rattle.std.proofs.Common.{subst, Err}
use Rattle.dr_plan_core.specs.Reading.{Passes}
use Rattle.dr_plan_text.specs.declared.words.PlanText.{PlanText}
use Rattle.dr_plan_text.proofs.OnePlan.{one_plan}
use Rattle.dr_plan_places.proofs.explaining.explain_plan.Goals as goal

-- The text writes one plan, so the one that was read again has the fault.
pub place_of-requires : goal.place_of-requires
place_of-requires c =
    subst (λ (plan : PlanText). Passes plan (Err c.args.fault)) (one_plan c.args.text.now c.requires.0 c.in-Ok.plan c.requires.1 c.in-Ok.ensures) c.requires.2
