-- A journal that was told.
use Rattle.std.specs.Prelude.{◌≡◌, ◌≢◌, ◌≤◌, ◌<◌, ◌⊎◌, ℕ, List, [], ◌∷◌, ◌++◌, length}
use Rattle.std.specs.Prelude.{slice_index_or}
use Rattle.dr_ledger.specs.Books.{Book, Fold, Line}
use Rattle.dr_ledger.specs.Histories.{IsJournalled}
use Rattle.dr_ledger.specs.Routings.{Routing}
use Rattle.dr_ledger_history.specs.Contents.{Content, content_of}
use Rattle.dr_ledger_history.specs.declared.line.HistoryFault.{HistoryFault}
use Rattle.dr_ledger_history.specs.declared.line.HistoryFault.TheVariants as history
use Rattle.dr_store_audit.specs.declared.fault.FindingFault.{FindingFault}
use Rattle.dr_store_audit.specs.declared.fault.FindingFault.TheVariants as finding
use Rattle.dr_store_lists.specs.declared.listing.JournalRow.{JournalRow}
use Rattle.dr_store_lists.specs.declared.listing.JournalRow.TheVariants as note

-- the notes are none, or end with an adoption
abbrev pub EndsAtAdoption : List (ℕ × JournalRow) → Type 0
EndsAtAdoption notes =
    (notes ≡ [])
    ⊎ ((earlier : List (ℕ × JournalRow)) × (n : ℕ) × (notes ≡ earlier ++ (n, note.Adoption) ∷ []))

-- from that place on no note is an adoption
abbrev pub NoneIsOver : ℕ → List (ℕ × JournalRow) → Type 0
NoneIsOver from notes =
    (k : ℕ) (d : ℕ × JournalRow)
    → from ≤ k → k < length notes → (slice_index_or notes k d).1 ≢ note.Adoption

-- Behind these lines the notes go on under that routing: those lines are a journal under it, or one
-- of the notes adopts a plan.
abbrev pub GoOnUnder : Routing → List Line → List (ℕ × JournalRow) → Type 0
GoOnUnder routing before notes =
    IsJournalled routing (Fold before)
    ⊎ ((k : ℕ) × (d : ℕ × JournalRow) × (k < length notes)
    × ((slice_index_or notes k d).1 ≡ note.Adoption))

-- what a line that isn't taken says of the tables: where it is no call that is accepted, they are
-- no ledger's of the site
abbrev pub finding_by : HistoryFault → FindingFault
finding_by history.NoCall = finding.OtherSite
finding_by history.Memory = finding.Memory

-- these lines are a journal of a ledger with that routing, and this is what they make
pub record IsToldJournal (routing : Routing) (lines : List Line) (c : Content) : Type 0 where
  pub journalled : IsJournalled routing (Fold lines)
  pub fold : c ≡ content_of (Fold lines)

-- no book of a ledger with that routing has these lines
abbrev pub IsNoJournal : Routing → List Line → Type 0
IsNoJournal routing lines = (b : Book) → IsJournalled routing b → b.lines ≡ lines → ⊥
