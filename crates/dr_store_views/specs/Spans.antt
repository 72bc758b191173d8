-- Lines of a journal whose numbers lie in a span, by the tables.
use Rattle.std.specs.Prelude.{◌≡◌, ◌<◌, ◌+◌, ℕ, true, List, [], ◌∷◌, filter, map as mapped}
use Rattle.std.specs.Ordering.{nat_cmp}
use Rattle.std.specs.FinMap as map
use Rattle.std.specs.FinSet as set
use Rattle.sqlite.specs.Order.{Row, column}
use Rattle.sqlite.specs.Tree.{Trees}
use Rattle.dr_ledger.specs.Books.{Line}
use Rattle.dr_ledger.specs.Replies.{Lists}
use Rattle.dr_ledger_views.specs.Numbers.{is_within, lines_within}
use Rattle.dr_store_schema.specs.Books.{is_of_line, numbered_line}
use Rattle.dr_store_schema.specs.Cells.{number_in, text_in}
use Rattle.dr_store_lists.specs.Lists.{Goal, goal_cmp, line_of}
use Rattle.dr_store_lists.specs.declared.listing.JournalRow.{JournalRow}

-- the journal's lines with their numbers, which rise
abbrev pub numbered_in : List Row → List Row → List (ℕ × Line)
numbered_in targets rows =
    map.entries (map.from_entries {R = nat_cmp} (mapped (numbered_line targets) rows))

abbrev pub numbered_of : Trees → List (ℕ × Line)
numbered_of db = numbered_in (db 12) (db 11)

-- the numbers of the notes follow the one and one another, and none is behind the other
abbrev pub CountsUp : ℕ → ℕ → List (ℕ × JournalRow) → Type 0
CountsUp n last [] = Unit {0}
CountsUp n last (e ∷ notes) = (n < last) × (e.0 ≡ n + 1) × CountsUp (n + 1) last notes

-- the notes tell the journal's lines in that span, by their own numbers, and count up behind it
pub record AreNotesWithin (db : Trees) (after last : ℕ)
    (notes : List (ℕ × JournalRow)) : Type 0 where
  pub up : CountsUp after last notes
  pub lines : (targets : List Row)
      → mapped (λ (e : ℕ × JournalRow). (e.0, line_of targets e.0 e.1)) notes
      ≡ lines_within after last (numbered_in targets (db 11))

-- the number and the name in a row of target
abbrev pub goal_in : Row → Goal
goal_in row = (number_in (column row 1), text_in (column row 2))

-- the goals are those of some rows of target, among which are all of each line in the span
pub record AreGoalsWithin (db : Trees) (after last : ℕ) (goals : List Goal) : Type 0 where
  pub some : List Row
  pub lists : Lists goal_cmp (set.from_list (mapped goal_in some)) goals
  pub whole : (n : ℕ) → is_within after last n ≡ true
      → filter (is_of_line n) some ≡ filter (is_of_line n) (db 12)
