-- The lines of a journal, as notes and goals tell them.
use Rattle.std.specs.Prelude.{◌≡◌, ℕ, List, [], ◌∷◌, ◌+◌, map as mapped}
use Rattle.dr_ledger.specs.Books.{Line, Arrival, Repeat, Settling, Requeuing, Dropping, Forgetting}
use Rattle.dr_ledger.specs.Books.{Adoption}
use Rattle.dr_store_lists.specs.Lists.{Goal}
use Rattle.dr_store_lists.specs.declared.listing.JournalRow.{JournalRow}
use Rattle.dr_store_lists.specs.declared.listing.JournalRow.TheVariants as note
use Rattle.dr_store_audit.specs.Goals.{keep_of, to_of}

-- the line of a note with that number: each has its own instance, and a first arrival goes on to
-- its goals
abbrev pub line_told : List Goal → ℕ → JournalRow → Line
line_told goals n (note.Arrival caller item) =
    Arrival caller item (to_of goals n) (keep_of goals n)
line_told goals n (note.Repeat caller item) = Repeat caller item
line_told goals n (note.Settling uid dest what now) = Settling uid dest what now
line_told goals n (note.Requeuing uid dest) = Requeuing uid dest
line_told goals n (note.Dropping uid dest now) = Dropping uid dest now
line_told goals n (note.Forgetting uid) = Forgetting uid
line_told goals n note.Adoption = Adoption

-- the lines of these notes
abbrev pub lines_told : List Goal → List (ℕ × JournalRow) → List Line
lines_told goals notes = mapped (λ (e : ℕ × JournalRow). line_told goals e.0 e.1) notes

-- the numbers count up from this one
abbrev pub CountUp : ℕ → List (ℕ × JournalRow) → Type 0
CountUp n [] = Unit {0}
CountUp n (e ∷ notes) = (e.0 ≡ n) × CountUp (n + 1) notes
