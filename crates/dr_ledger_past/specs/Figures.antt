-- Figures of an example: a CT image came from CT1 for ARCH, and that line stands elsewhere now.
use Rattle.std.specs.Prelude.{◌≡◌, true, List, [], ◌∷◌, codes}
use Rattle.dr_ledger.specs.declared.item.Outcome.TheVariants.{Status}
use Rattle.dr_ledger.specs.Books.{Book, Line, Arrival, Settling, Fold, after, empty_book}
use Rattle.dr_ledger.specs.Histories.{IsJournalled}
use Rattle.dr_ledger.specs.Routings.{Routing}
use Rattle.dr_ledger.specs.Showing.{an_image}
use Rattle.dr_ledger_history.specs.Contents.{book_of, content_of}
use Rattle.dr_ledger_past.specs.Pasts.{with_past}

-- a node that keeps whatever comes, and sends it on to ARCH
abbrev pub a_routing : Routing
a_routing = record {
  HasLine = λ caller key. Unit {0};
  targets = λ caller key. codes "ARCH" ∷ [];
  keeps = λ caller key. true;
}

abbrev pub an_arrival : Line
an_arrival = Arrival (codes "CT1") an_image (codes "ARCH" ∷ []) true

abbrev pub a_settling : Line
a_settling = Settling an_image.uid (codes "ARCH") (Status 0) 5

abbrev pub a_past : List Line
a_past = an_arrival ∷ []

-- what the past made, and no lines
abbrev pub what_it_made : Book
what_it_made = book_of (content_of (Fold a_past))

-- Lines stand behind those of the past. With the past the node has a journal right away, and when
-- ARCH has answered; but neither where the image is lost, nor where it came from CT1 once more as
-- if it were new, though that is a journal without the past.
pub record PastFiguresAreRight : Type 0 where
  pub lines : (with_past a_past (after a_settling what_it_made)).lines
      ≡ an_arrival ∷ a_settling ∷ []
  pub right_away : IsJournalled a_routing (with_past a_past what_it_made)
  pub answered : IsJournalled a_routing (with_past a_past (after a_settling what_it_made))
  pub lost : IsJournalled a_routing (with_past a_past empty_book) → ⊥
  pub again : IsJournalled a_routing (with_past a_past (Fold a_past)) → ⊥
  pub alone : IsJournalled a_routing (Fold a_past)
