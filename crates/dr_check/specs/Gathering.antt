-- A gatherer of a plan's faults between two entries.
use Rattle.std.specs.Prelude.{Contains}
use Rattle.dr_base.specs.Texts.{Text}
use Rattle.dr_route.specs.declared.cell.OwnedCell.{OwnedCell}
use Rattle.dr_check.specs.declared.all.Gatherer.{Gatherer}
use Rattle.dr_check.specs.declared.all.LargeEntry.{LargeEntry}
use Rattle.dr_check.specs.declared.fault.Fault.{Fault}
use Rattle.dr_check.specs.AllFaults.{IsToldAtEntry, IsCovered}
use Rattle.dr_check.specs.Shown.{IsTooLarge}

-- each fault that it has gathered is one of its plan
abbrev pub GathererIsReady : Gatherer → Type 0
GathererIsReady g = (fault : Fault) → Contains g.faults fault → IsToldAtEntry g.plan.now fault

-- the entry is harmless, or its fault is gathered
abbrev pub HasGathered : Gatherer → Text → OwnedCell → Type 0
HasGathered g site cell = IsCovered g.plan.now g.faults site cell

-- what stops it is that the plan has too many lines
abbrev pub ShowsLarge : Gatherer → LargeEntry → Text → OwnedCell → Type 0
ShowsLarge g stopped site cell = IsTooLarge g.plan.now
