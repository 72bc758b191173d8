-- Rows that stood at the last adoption, and whether the plan goes on with them.
use Rattle.std.specs.Prelude.{◌≡◌, List, Contains, Option, Some, Result, Ok, Err}
use Rattle.std.specs.Prelude.{map as mapped}
use Rattle.std.specs.FinMap as map
use Rattle.dr_base.specs.Texts.{Text}
use Rattle.dr_plan_model.specs.Networks.{Network}
use Rattle.dr_plan_model.specs.Walks.{IsReached}
use Rattle.dr_ledger.specs.declared.item.Instance.{Instance}
use Rattle.dr_ledger.specs.declared.item.Progress.{Progress}
use Rattle.dr_ledger.specs.Books.{Book}
use Rattle.dr_ledger.specs.Pairs.{Pair}
use Rattle.dr_ledger_history.specs.declared.line.HistoryFault.{HistoryFault}
use Rattle.dr_ledger_history.specs.declared.line.HistoryFault.TheVariants as history
use Rattle.dr_world_audit.specs.declared.fault.JournalFault.{JournalFault}
use Rattle.dr_world_audit.specs.declared.fault.JournalFault.TheVariants as fault
use Rattle.dr_world_audit.specs.declared.hop.AuditHop.{AuditHop as Held}
use Rattle.dr_world_audit.specs.Hops.{grows_by}
use Rattle.dr_world_journals.specs.Hops.{if_row, standing}

-- the fault of a journal for that of its history
abbrev pub as_read : HistoryFault → JournalFault
as_read history.NoCall = fault.NoCall
as_read history.Memory = fault.Memory

-- the item of the row that stands for the goal
abbrev pub StandsAt : Book → Pair → Option Instance → Type 0
StandsAt b at found = found ≡ if_row (map.get b.rows at) (map.get b.items at.0)

-- a row for the goal stands, of this item
pub record StandsOf (b : Book) (at : Pair) (item : Instance) : Type 0 where
  pub row : Progress
  pub at_goal : map.get b.rows at ≡ Some row
  pub has : map.get b.items at.0 ≡ Some item

-- if a row for the goal stands, the plan brings its item's key from the node to there
abbrev pub FitsAt : Network → Text → Book → Pair → Type 0
FitsAt plan name b at =
    (item : Instance) → StandsOf b at item → IsReached plan item.key name at.1

-- a row for the goal stands, and the plan doesn't bring its item's key from the node to there
abbrev pub UnfitAt : Network → Text → Book → Pair → Type 0
UnfitAt plan name b at =
    (item : Instance) × StandsOf b at item × (IsReached plan item.key name at.1 → ⊥)

-- the uid, to each of these
abbrev pub goals_to : Text → List Text → List Pair
goals_to uid to = mapped (λ (next : Text). (uid, next)) to

-- all rows that stand for these goals fit, and are noted; or one doesn't fit
abbrev pub Stands : Network → Text → Book → List Pair → List Held → List Held
    → Result (Unit {0}) JournalFault
    → Type 0
Stands plan name b all old new (Ok done) =
    grows_by old (standing name b all) new
    × ((at : Pair) → Contains all at → FitsAt plan name b at)
Stands plan name b all old new (Err (fault.Unfit uid to)) = UnfitAt plan name b (uid, to)
Stands plan name b all old new (Err fault.NoCall) = ⊥
Stands plan name b all old new (Err fault.Memory) = Unit {0}
