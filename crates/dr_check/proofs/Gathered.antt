-- The faults that a gatherer has at the end are those of its plan.
use Rattle.std.proofs.Common.{◌≡◌, subst, Contains}
use Rattle.dr_base.specs.Texts.{Text}
use Rattle.dr_route.specs.declared.cell.OwnedCell.{OwnedCell}
use Rattle.dr_plan_model.specs.Networks.{Network}
use Rattle.dr_plan_entries.specs.Visiting.{IsEntryCell}
use Rattle.dr_check.specs.declared.all.Gatherer.{Gatherer}
use Rattle.dr_check.specs.declared.fault.Fault.{Fault}
use Rattle.dr_check.specs.Gathering.{GathererIsReady, HasGathered}
use Rattle.dr_check.specs.AllFaults.{IsToldAtEntry, IsCovered, AreCovered}

pub all_covered : (plan : Network) (g : Gatherer)
    → g.plan.now ≡ plan
    → ((site : Text) (cell : OwnedCell) → IsEntryCell plan site cell → HasGathered g site cell)
    → AreCovered plan g.faults
all_covered plan g same visited = λ site cell entry.
    (let P : Network → Type 0 = λ p. IsCovered p g.faults site cell in
    subst P same (visited site cell entry))

pub each_told : (plan : Network) (g : Gatherer)
    → g.plan.now ≡ plan → GathererIsReady g → (f : Fault) → Contains g.faults f
    → IsToldAtEntry plan f
each_told plan g same ready f has =
    let P : Network → Type 0 = λ p. IsToldAtEntry p f in subst P same (ready f has)
