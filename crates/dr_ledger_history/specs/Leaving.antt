-- What is left where all that is of one uid leaves.
use Rattle.std.specs.Prelude.{◌≡◌, Bool, true, false, Option, None, Some}
use Rattle.std.specs.BTreeSet as sorted
use Rattle.std.specs.FinMap as map
use Rattle.std.specs.FinMap.{FinMap}
use Rattle.std.specs.Ordering.{is_le}
use Rattle.dr_base.specs.Texts.{Text, text_cmp}
use Rattle.dr_ledger.specs.declared.item.Progress.{Progress}
use Rattle.dr_ledger.specs.Books.{is_other, is_queued}
use Rattle.dr_ledger.specs.Pairs.{Pair, pair_cmp}

abbrev pub RowMap : Type 0
RowMap = FinMap pair_cmp Progress

-- a row of the uid, or that there is none
abbrev pub IsRowOf : Text → RowMap → Option (Pair × Progress) → Type 0
IsRowOf uid rows None = (dest : Text) → map.get rows (uid, dest) ≡ None
IsRowOf uid rows (Some found) = (found.0.0 ≡ uid) × (map.get rows found.0 ≡ Some found.1)

-- each row of the uid is done or dropped
abbrev pub AreOver : Text → RowMap → Type 0
AreOver uid rows =
    (dest : Text) (row : Progress)
    → map.get rows (uid, dest) ≡ Some row
    → is_queued row ≡ false

-- the rows of the uid have left, and all were done or dropped; or one isn't, and nothing is said of
-- what is left
abbrev pub AreLetGo : Text → RowMap → Bool → RowMap → Type 0
AreLetGo uid old true new =
    AreOver uid old × (new ≡ map.retain_keys old (λ at. is_other uid at.0))
AreLetGo uid old false new = AreOver uid old → ⊥

-- the text is that one or a later one
abbrev pub is_from : Text → Text → Bool
is_from start text = is_le (text_cmp start text)

-- the first caller from that one on who brought anything, or that there is none
abbrev pub IsCallerFrom : Text → sorted.BTreeSet Pair → Option Text → Type 0
IsCallerFrom from arrivals None =
    (at : Pair) → sorted.contains pair_cmp arrivals at ≡ true → is_from from at.0 ≡ false
IsCallerFrom from arrivals (Some caller) = (is_from from caller ≡ true)
    × ((uid : Text) × (sorted.contains pair_cmp arrivals (caller, uid) ≡ true))
    × ((at : Pair) → sorted.contains pair_cmp arrivals at ≡ true → is_from from at.0 ≡ true →
    is_from caller at.0 ≡ true)
