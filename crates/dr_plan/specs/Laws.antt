-- Laws of reading plans.
use Rattle.std.specs.Prelude.{◌≡◌, ◌≢◌, Result, Ok, Err}
use Rattle.dr_base.specs.Texts.{Text}
use Rattle.dr_plan_model.specs.Networks.{Network}
use Rattle.dr_plan_model.specs.Formed.{AreWellFormed}
use Rattle.dr_plan_core.specs.declared.fault.PlanFault.{PlanFault}
use Rattle.dr_plan_core.specs.declared.fault.PlanFault.TheVariants.{Memory}
use Rattle.dr_plan_model.specs.declared.plan.Format.TheVariants.{Three}
use Rattle.dr_plan_core.specs.Reading.{ReadsCore}
use Rattle.dr_plan.specs.Reading.{Reads}

-- want of memory aside, a text has one answer
abbrev pub EachTextHasOneAnswer : Type 0
EachTextHasOneAnswer =
    (text : Text) (r s : Result Network PlanFault)
    → r ≢ Err Memory → s ≢ Err Memory → Reads text r → Reads text s → r ≡ s

-- each plan that is read of a text is well-formed
abbrev pub PlansAreWellFormed : Type 0
PlansAreWellFormed =
    (text : Text) (plan : Network)
    → Reads text (Ok plan)
    → AreWellFormed plan.format plan.nodes plan.flows

-- what is read of a text as it stands, and isn't of format 3, is its plan
abbrev pub CoresAreRead : Type 0
CoresAreRead =
    (text : Text) (plan : Network)
    → ReadsCore text (Ok plan) → plan.format ≢ Three → Reads text (Ok plan)
