-- How much a node has, as it is printed where all holds.
use Rattle.std.specs.Prelude.{ℕ, Bool, true, false, ◌&&◌, List, [], ◌∷◌, ◌++◌, codes, decimal}
use Rattle.std.specs.Prelude.{Some, filter, length}
use Rattle.dr_base.specs.Texts.{Text, next_field}
use Rattle.dr_ledger.specs.declared.item.Outcome.{Outcome}
use Rattle.dr_ledger.specs.declared.item.Outcome.TheVariants.{Status, Broken, NoContext, Unreadable}
use Rattle.dr_ledger.specs.Books.{Line, Arrival, Repeat, Settling, Requeuing, Dropping, Row}
use Rattle.dr_ledger.specs.Books.{Forgetting, Adoption, is_success, since_adoption}
use Rattle.dr_ledger_views.specs.Views.{is_at as is_at_stage}
use Rattle.dr_ledger_views.specs.declared.stage.Stage.{Stage}
use Rattle.dr_ledger_views.specs.declared.stage.Stage.TheVariants as stages
use Rattle.dr_word_adopt.specs.Names.{is_among}
use Rattle.dr_word_audit.specs.declared.counting.Figures.{Figures}
use Rattle.dr_word_audit.specs.declared.counting.LineKind.{LineKind}
use Rattle.dr_word_audit.specs.declared.counting.LineKind.TheVariants as kind

-- the receiver has the instance
abbrev pub is_taken : Outcome → Bool
is_taken (Status status) = is_success status
is_taken Broken = false
is_taken NoContext = false
is_taken Unreadable = false

-- the line is of a first arrival
abbrev pub is_first : Line → Bool
is_first (Arrival caller item to keep) = true
is_first (Repeat caller item) = false
is_first (Settling uid dest outcome now) = false
is_first (Requeuing uid dest) = false
is_first (Dropping uid dest now) = false
is_first (Forgetting uid) = false
is_first Adoption = false

-- by the line a person gave a row up
abbrev pub is_dropping : Line → Bool
is_dropping (Arrival caller item to keep) = false
is_dropping (Repeat caller item) = false
is_dropping (Settling uid dest outcome now) = false
is_dropping (Requeuing uid dest) = false
is_dropping (Dropping uid dest now) = true
is_dropping (Forgetting uid) = false
is_dropping Adoption = false

-- by the line one of the others answered with success
abbrev pub is_answer : List Text → Line → Bool
is_answer others (Arrival caller item to keep) = false
is_answer others (Repeat caller item) = false
is_answer others (Settling uid dest outcome now) = is_taken outcome && is_among others dest
is_answer others (Requeuing uid dest) = false
is_answer others (Dropping uid dest now) = false
is_answer others (Forgetting uid) = false
is_answer others Adoption = false

-- the line is of this kind
abbrev pub is_of : LineKind → List Text → Line → Bool
is_of kind.First others line = is_first line
is_of kind.Dropped others line = is_dropping line
is_of kind.Answered others line = is_answer others line

-- how many of these lines are of this kind
abbrev pub how_many : LineKind → List Text → List Line → ℕ
how_many sort others lines = length (filter (is_of sort others) lines)

-- the row is at this stage
abbrev pub is_at : Stage → Row → Bool
is_at stage row = is_at_stage (Some stage) row.1

-- how many of these rows are at this stage
abbrev pub how_many_at : Stage → List Row → ℕ
how_many_at stage rows = length (filter (is_at stage) rows)

-- of a journal's lines under the plan in force, of so many kept instances, and of rows
abbrev pub figures : List Text → List Line → ℕ → List Row → Figures
figures others lines kept rows = record {
  arrivals = how_many kind.First others (since_adoption lines);
  kept = kept;
  waiting = how_many_at stages.Waiting rows;
  held = how_many_at stages.Held rows;
  dropped = how_many kind.Dropped others (since_adoption lines);
  others = how_many kind.Answered others (since_adoption lines);
}

-- a word, and a number for it
abbrev pub count_fields : Text → ℕ → Text
count_fields word count = next_field word ++ next_field (decimal count)

-- how much a node has
abbrev pub figure_fields : Figures → Text
figure_fields f =
    count_fields (codes "arrivals") f.arrivals ++ count_fields (codes "kept") f.kept
    ++ count_fields (codes "waiting") f.waiting ++ count_fields (codes "held") f.held
    ++ count_fields (codes "dropped") f.dropped ++ count_fields (codes "others") f.others

-- the line of a node
abbrev pub node_line : Text → Figures → Text
node_line name f = codes "node" ++ next_field name ++ figure_fields f ++ (10 ∷ [])

-- the line before those of so many nodes
abbrev pub holds_line : ℕ → Text
holds_line count = codes "holds" ++ next_field (decimal count) ++ (10 ∷ [])
