-- Laws of reading plans as they stand.
use Rattle.std.specs.Prelude.{◌≡◌, ◌≢◌, Result, Ok, Err}
use Rattle.dr_base.specs.Texts.{Text}
use Rattle.dr_plan_model.specs.Networks.{Network}
use Rattle.dr_plan_model.specs.Formed.{AreWellFormed}
use Rattle.dr_plan_core.specs.declared.fault.PlanFault.{PlanFault}
use Rattle.dr_plan_core.specs.declared.fault.PlanFault.TheVariants.{Memory}
use Rattle.dr_plan_core.specs.Reading.{ReadsCore}

-- want of memory aside, a text is read as it stands in one way
abbrev pub EachCoreHasOneAnswer : Type 0
EachCoreHasOneAnswer =
    (text : Text) (r s : Result Network PlanFault)
    → r ≢ Err Memory → s ≢ Err Memory → ReadsCore text r → ReadsCore text s → r ≡ s

-- each plan that is read of a text as it stands is well-formed
abbrev pub CoresAreWellFormed : Type 0
CoresAreWellFormed =
    (text : Text) (plan : Network)
    → ReadsCore text (Ok plan)
    → AreWellFormed plan.format plan.nodes plan.flows
