-- What is made of whole lists.
use Rattle.std.specs.Prelude.{◌≡◌, ◌<◌, ◌⊎◌, ℕ, Bool, true, false, T, List, All, length, take}
use Rattle.std.specs.Prelude.{Option, Some, None, Result, Ok, Err}
use Rattle.std.specs.List.{AllZip, HoldsAt}
use Rattle.std.specs.FinMap.{find, is_sorted}
use Rattle.dr_base.specs.Texts.{Text, text_cmp}
use Rattle.dr_plan_model.specs.Networks.{Network}
use Rattle.dr_plan_model.specs.Walks.{IsReached}
use Rattle.dr_route.specs.declared.key.Key.{Key}
use Rattle.dr_ledger.specs.declared.fault.LedgerFault.{LedgerFault}
use Rattle.dr_ledger.specs.declared.item.Progress.{Progress}
use Rattle.dr_ledger.specs.Books.{is_queued}
use Rattle.dr_ledger.specs.Pairs.{Pair}
use Rattle.dr_ledger.specs.Replies.{Reads}
use Rattle.dr_store_reads.specs.declared.finding.Print.{Print}

-- ---- kept uids

-- a uid with the length that its print has
abbrev pub IsSize : List (Text × Print) → Text × ℕ → Type 0
IsSize prints e = (print : Print) × (find text_cmp e.0 prints ≡ Some print) × (print.size ≡ e.1)

-- the uid with the length that its print has, where prints rise by their uids
abbrev pub IsSized : List (Text × Print) → Text → Text × ℕ → Type 0
IsSized prints uid e = (e.0 ≡ uid) × (T (is_sorted text_cmp prints) → IsSize prints e)

-- these uids, each so
abbrev pub AreSized : List (Text × Print) → List Text → List (Text × ℕ) → Type 0
AreSized prints = AllZip (IsSized prints)

-- ---- unfit rows

-- the instance of the uid is known by this key, where keys rise by their uids
abbrev pub IsOfKey : List (Text × Key) → Text → Key → Type 0
IsOfKey keys uid key = T (is_sorted text_cmp keys) → find text_cmp uid keys ≡ Some key

-- the row is over, or the next plan goes on with it
abbrev pub FitsAmong : Network → Text → List (Text × Key) → Pair × Progress → Type 0
FitsAmong next name keys row =
    (is_queued row.1 ≡ false)
    ⊎ ((key : Key) × (IsOfKey keys row.0.0 key × IsReached next key name row.0.1))

-- the row is still queued, and the next plan doesn't go on with it
abbrev pub IsUnfitRow : Network → Text → List (Text × Key) → Pair × Progress → Type 0
IsUnfitRow next name keys row =
    (is_queued row.1 ≡ true)
    × ((key : Key) × (IsOfKey keys row.0.0 key × (IsReached next key name row.0.1 → ⊥)))

abbrev pub IsUnfitAmong : Network → Text → List (Text × Key) → Pair × Progress → Bool → Type 0
IsUnfitAmong next name keys row true = IsUnfitRow next name keys row
IsUnfitAmong next name keys row false = FitsAmong next name keys row

-- the first unfit row, before which all fit, or that all fit
abbrev pub UnfitsAmong : Network → Text → List (Pair × Progress) → List (Text × Key) → Option Pair
    → Type 0
UnfitsAmong next name rows keys None = All (FitsAmong next name keys) rows
UnfitsAmong next name rows keys (Some at) =
    (i : ℕ)
    × ((row : Progress)
    × ((i < length rows)
    × (HoldsAt (λ r. r ≡ (at, row)) rows i
    × (All (FitsAmong next name keys) (take i rows) × IsUnfitRow next name keys (at, row)))))

-- where rows and keys were listed, the first unfit one of these
abbrev pub UnfitsOf : {L : Type 0}
    → (L → List (Pair × Progress))
    → (L → List (Text × Key)) → Network → Text → Result L LedgerFault
    → Result (Option Pair) LedgerFault
    → Type 0
UnfitsOf rows keys next name (Ok listed) result =
    Reads result (UnfitsAmong next name (rows listed) (keys listed))
UnfitsOf rows keys next name (Err why) result = result ≡ Err why
