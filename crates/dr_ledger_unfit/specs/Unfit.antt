-- All rows of a book that a next plan doesn't go on with.
use Rattle.std.specs.Prelude.{◌≡◌, ◌⊎◌, List, [], ◌∷◌, Some, true, false}
use Rattle.std.specs.FinMap as map
use Rattle.std.specs.FinMap.{FinMap}
use Rattle.dr_base.specs.Texts.{Text, text_cmp}
use Rattle.dr_plan_model.specs.Networks.{Network}
use Rattle.dr_plan_model.specs.Walks.{IsReached}
use Rattle.dr_ledger.specs.Books.{Book, Row, is_queued}
use Rattle.dr_ledger.specs.Pairs.{Pair}
use Rattle.dr_ledger.specs.declared.item.Instance.{Instance}

-- the row is over: done or dropped
abbrev pub IsOverRow : Row → Type 0
IsOverRow row = is_queued row.1 ≡ false

-- of these rows just those of which the first holds, each by its instance and its destination, in
-- their order; of each other row the second holds
abbrev pub ArePicked : (Row → Type 0) → (Row → Type 0) → List Row → List Pair → Type 0
ArePicked Holds Else [] found = found ≡ []
ArePicked Holds Else (row ∷ rows) found =
    ((later : List Pair) × Holds row × (found ≡ row.0 ∷ later) × ArePicked Holds Else rows later)
    ⊎ (Else row × ArePicked Holds Else rows found)

module _ (next : Network) (name : Text) (items : FinMap text_cmp Instance) where
  -- the row is of one of these instances, whose key comes from the node to the row's destination
  -- under the next plan
  abbrev pub GoesOn : Row → Type 0
  GoesOn row =
      (item : Instance)
      × (map.get items row.0.0 ≡ Some item)
      × IsReached next item.key name row.0.1

  -- the next plan leaves nothing of the row: it is over, or it goes on
  abbrev pub IsFitRow : Row → Type 0
  IsFitRow row = IsOverRow row ⊎ GoesOn row

  -- the row is still queued, and is of one of these instances, whose key doesn't come there
  abbrev pub IsUnfitRow : Row → Type 0
  IsUnfitRow row =
      (item : Instance)
      × (is_queued row.1 ≡ true)
      × (map.get items row.0.0 ≡ Some item)
      × (IsReached next item.key name row.0.1 → ⊥)

-- all rows of the node's book that the next plan doesn't go on with, by uid, then destination
abbrev pub AreUnfit : Network → Text → Book → List Pair → Type 0
AreUnfit next name b found =
    ArePicked (IsUnfitRow next name b.items) (IsFitRow next name b.items) (map.entries b.rows)
    found
