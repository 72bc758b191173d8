-- Books whose first lines stand elsewhere: what they are with the lines of that past, and when they
-- go on from what the past made.
use Rattle.std.specs.Prelude.{◌≡◌, ◌⊎◌, List, ◌∷◌, ◌++◌}
use Rattle.dr_ledger.specs.Books.{Book, Line, Adoption, Fold, after, folded}
use Rattle.dr_ledger.specs.Histories.{IsHistory, IsJournalled, IsPast}
use Rattle.dr_ledger.specs.Routings.{Routing}
use Rattle.dr_ledger_history.specs.Contents.{Content, book_of}
use Rattle.dr_ledger_history.specs.Told.{IsTold}

-- the book with the lines of that past before its own
abbrev pub with_past : List Line → Book → Book
with_past past b = record {
  items = b.items;
  arrivals = b.arrivals;
  kept = b.kept;
  rows = b.rows;
  lines = past ++ b.lines;
}

-- A plan was adopted among these lines, for the last time there: those up to its adoption are a
-- history from this book on, under whatever plans, and those since then one under the plan in
-- force.
pub record AdoptsAmong (routing : Routing) (lines : List Line) (b : Book) : Type 0 where
  pub earlier : List Line
  pub since : List Line
  pub are : lines ≡ earlier ++ Adoption ∷ since
  pub accepted : IsPast earlier b
  pub history : IsHistory routing since (after Adoption (folded b earlier))

-- Under the plan in force these lines follow the past, from this book on, which has what the past
-- made: the past is one under that plan, and they are a history, or a plan was adopted among them.
abbrev pub Follow : Routing → List Line → List Line → Book → Type 0
Follow routing past lines b =
    (IsJournalled routing (Fold past) × IsHistory routing lines b) ⊎ AdoptsAmong routing lines b

-- The book goes on from the past: it is what its own lines make of what the past made, and they
-- follow the past.
pub record GoesOnFrom (routing : Routing) (past : List Line) (b : Book) : Type 0 where
  pub made : Content
  pub told : IsTold past made
  pub follow : Follow routing past b.lines (book_of made)
  pub fold : b ≡ folded (book_of made) b.lines
