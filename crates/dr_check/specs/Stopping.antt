-- Why a checker stops at an entry.
use Rattle.dr_base.specs.Texts.{Text}
use Rattle.dr_route.specs.declared.cell.OwnedCell.{OwnedCell}
use Rattle.dr_plan_model.specs.Networks.{Network}
use Rattle.dr_check.specs.declared.checker.Stopped.{Stopped}
use Rattle.dr_check.specs.declared.checker.Stopped.TheVariants.{Fault, TooLarge}
use Rattle.dr_check.specs.Firsts.{IsNamedFirst, IsOnWalk}
use Rattle.dr_check.specs.Shown.{IsShown, IsTooLarge}

-- the fault shows itself on a walk from the site for the keys of the cell, the first one that shows
-- one; or the plan has too many lines
abbrev pub IsStoppedAt : Network → Stopped → Text → OwnedCell → Type 0
IsStoppedAt plan (Fault fault) site cell =
    IsShown plan fault × IsNamedFirst plan fault × IsOnWalk site cell fault
IsStoppedAt plan TooLarge site cell = IsTooLarge plan
