-- Rows with which the next plan doesn't go on.
use Rattle.std.specs.Prelude.{◌≡◌, ◌≢◌, true, Option, None, Some}
use Rattle.std.specs.declared.cmp.Ordering.TheVariants.{Greater}
use Rattle.std.specs.FinMap.{find}
use Rattle.dr_base.specs.Texts.{Text, text_cmp}
use Rattle.dr_plan_model.specs.Networks.{Network}
use Rattle.dr_plan_model.specs.Walks.{IsReached}
use Rattle.dr_ledger.specs.declared.item.Progress.{Progress}
use Rattle.dr_ledger.specs.Books.{is_queued}
use Rattle.dr_ledger_memory.specs.declared.held.Held.{Held as Entry}

-- the row is done or dropped, or the plan goes on with it
abbrev pub RowFits : Network → Text → Entry → Text → Progress → Type 0
RowFits next name entry dest row =
    is_queued row ≡ true → IsReached next entry.instance.key name dest

-- the row waits or is held, and the plan doesn't go on with it
abbrev pub IsUnfitRow : Network → Text → Entry → Text → Progress → Type 0
IsUnfitRow next name entry dest row =
    (is_queued row ≡ true) × (IsReached next entry.instance.key name dest → ⊥)

-- all rows fit
abbrev pub AllFit : Network → Text → Entry → Type 0
AllFit next name entry =
    (dest : Text) (row : Progress)
    → find text_cmp dest entry.rows.items ≡ Some row
    → RowFits next name entry dest row

-- the first destination of a row that doesn't, or none
abbrev pub UnfitsIn : Network → Text → Entry → Option Text → Type 0
UnfitsIn next name entry None = AllFit next name entry
UnfitsIn next name entry (Some dest) =
    ((row : Progress)
    × (find text_cmp dest entry.rows.items ≡ Some row)
    × IsUnfitRow next name entry dest row)
    × ((other : Text) (its : Progress)
    → find text_cmp other entry.rows.items ≡ Some its
    → IsUnfitRow next name entry other its
    → text_cmp dest other ≢ Greater)
