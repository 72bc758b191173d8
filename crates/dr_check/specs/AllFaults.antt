-- All faults of a plan that are told together: of each entry from which a walk shows one the fault
-- that is named there.
use Rattle.std.specs.Prelude.{◌≡◌, ◌⊎◌, List, [], Contains, Result, Ok, Err}
use Rattle.dr_base.specs.Texts.{Text}
use Rattle.dr_route.specs.declared.cell.OwnedCell.{OwnedCell}
use Rattle.dr_plan_model.specs.Networks.{Network}
use Rattle.dr_plan_sound.specs.Soundness.{IsSound}
use Rattle.dr_plan_entries.specs.Visiting.{IsEntryCell}
use Rattle.dr_check.specs.declared.fault.Fault.{Fault}
use Rattle.dr_check.specs.declared.verdict.CheckFault.{CheckFault}
use Rattle.dr_check.specs.declared.verdict.CheckFault.TheVariants.{TooLarge, Memory}
use Rattle.dr_check.specs.Firsts.{IsNamedFirst, IsOnWalk, IsHarmlessEntry, IsFirstOfPlan}
use Rattle.dr_check.specs.Shown.{IsShown, IsTooLarge}

-- the fault is on a walk from an entry of the plan
pub record IsAtEntry (plan : Network) (fault : Fault) : Type 0 where
  pub site : Text
  pub cell : OwnedCell
  pub entry : IsEntryCell plan site cell
  pub on : IsOnWalk site cell fault

-- the fault shows itself, and is the one that is named at an entry of the plan
abbrev pub IsToldAtEntry : Network → Fault → Type 0
IsToldAtEntry plan fault =
    IsShown plan fault × IsNamedFirst plan fault × IsAtEntry plan fault

-- no walk from the entry shows a fault, or the one that is on a walk from there is among these
abbrev pub IsCovered : Network → List Fault → Text → OwnedCell → Type 0
IsCovered plan faults site cell =
    IsHarmlessEntry plan site cell
    ⊎ ((fault : Fault) × Contains faults fault × IsOnWalk site cell fault)

-- this holds of each entry of the plan
abbrev pub AreCovered : Network → List Fault → Type 0
AreCovered plan faults =
    (site : Text) (cell : OwnedCell) → IsEntryCell plan site cell → IsCovered plan faults site cell

-- Each of these faults shows itself, and is the one that is named at its entry, or else the first
-- one of the plan; each entry of the plan is harmless or has its fault among them; and where there
-- is none the plan is sound.
pub record AreAllFaults (plan : Network) (faults : List Fault) : Type 0 where
  pub each : (fault : Fault) → Contains faults fault
      → IsShown plan fault × IsNamedFirst plan fault
      × (IsAtEntry plan fault ⊎ IsFirstOfPlan plan fault)
  pub covered : AreCovered plan faults
  pub none : faults ≡ [] → IsSound plan

-- the faults of a plan, or that there are more lines than a certificate may have, or want of memory
abbrev pub AnswersAll : Network → Result (List Fault) CheckFault → Type 0
AnswersAll plan (Ok faults) = AreAllFaults plan faults
AnswersAll plan (Err TooLarge) = IsTooLarge plan
AnswersAll plan (Err Memory) = Unit {0}
