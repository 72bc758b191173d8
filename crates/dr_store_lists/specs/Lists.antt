-- Whole tables, as lists whose keys rise.
use Rattle.std.specs.Prelude.{◌≡◌, ◌==◌, not, ℕ, zero, suc, List, Contains, option_map}
use Rattle.std.specs.Prelude.{map as mapped}
use Rattle.std.specs.List.{AllByRecursion}
use Rattle.std.specs.declared.cmp.Ordering.{Ordering}
use Rattle.std.specs.Ordering.{nat_cmp, ordering_then}
use Rattle.std.specs.FinMap as map
use Rattle.std.specs.FinMap.{FinMap}
use Rattle.std.specs.FinSet as set
use Rattle.std.specs.FinSet.{FinSet}
use Rattle.sqlite.specs.Order.{Row, column}
use Rattle.sqlite.specs.Tree.{Trees, rowid}
use Rattle.dr_base.specs.Texts.{Text, text_cmp}
use Rattle.dr_route.specs.declared.key.Key.{Key}
use Rattle.dr_ledger.specs.declared.item.Instance.{Instance}
use Rattle.dr_ledger.specs.declared.item.Outcome.{Outcome}
use Rattle.dr_ledger.specs.declared.item.Progress.{Progress}
use Rattle.dr_ledger.specs.Pairs.{Pair}
use Rattle.dr_ledger.specs.Books.{Line, Arrival, Repeat, Settling, Requeuing, Dropping, Forgetting}
use Rattle.dr_ledger.specs.Books.{Adoption}
use Rattle.dr_store_schema.specs.Books.{instance_by, instance_in, items_of, key_in, keeps_in}
use Rattle.dr_store_schema.specs.Books.{line_in, lines_in, names_in, prints_of, targets_in}
use Rattle.dr_store_schema.specs.Books.{wholes_in}
use Rattle.dr_store_schema.specs.Cells.{bytes_in, number_in, outcome_in, progress_in, syntax_marked}
use Rattle.dr_store_schema.specs.Cells.{text_in}
use Rattle.dr_store_reads.specs.declared.finding.Print.{Print}
use Rattle.dr_store_lists.specs.declared.listing.JournalRow.{JournalRow}
use Rattle.dr_store_lists.specs.declared.listing.JournalRow.TheVariants as note

-- ---- item and print

-- the key of each instance
abbrev pub keys_of : Trees → FinMap text_cmp Key
keys_of db = map.from_entries (mapped (λ (row : Row). (text_in (column row 1), key_in row)) (db 1))

abbrev pub whole_print_in : Row → Print
whole_print_in row = record {
  size = number_in (column row 2);
  digest = bytes_in (column row 3);
  whole = not (number_in (column row 4) == 0);
}

-- of each print all that it says
abbrev pub whole_prints_of : Trees → FinMap text_cmp Print
whole_prints_of db =
    map.from_entries (mapped (λ (row : Row). (text_in (column row 1), whole_print_in row)) (db 3))

-- What is known of an instance is its key with its print.
pub record KeysAndPrintsAreInstances (db : Trees) : Type 0 where
  pub items : (uid : Text)
      → map.get (items_of db) uid
      ≡ option_map (instance_by (prints_of db) uid) (map.get (keys_of db) uid)
  pub prints : (uid : Text)
      → map.get (prints_of db) uid
      ≡ option_map (λ (p : Print). (p.size, p.digest)) (map.get (whole_prints_of db) uid)
  pub wholes : (uid : Text)
      → option_map (λ n. not (n == 0)) (map.get (wholes_in (db 3)) uid)
      ≡ option_map (λ (p : Print). p.whole) (map.get (whole_prints_of db) uid)

-- ---- journal

-- what a row of journal says
abbrev pub note_by : ℕ → Text → Instance → Text → Text → Outcome → ℕ → JournalRow
note_by zero caller item uid dest what now = note.Arrival caller item
note_by (suc zero) caller item uid dest what now = note.Repeat caller item
note_by (suc (suc zero)) caller item uid dest what now = note.Settling uid dest what now
note_by (suc (suc (suc zero))) caller item uid dest what now = note.Requeuing uid dest
note_by (suc (suc (suc (suc zero)))) caller item uid dest what now = note.Adoption
note_by (suc (suc (suc (suc (suc zero))))) caller item uid dest what now = note.Forgetting uid
note_by (suc (suc (suc (suc (suc (suc zero)))))) caller item uid dest what now =
    note.Dropping uid dest now
note_by (suc (suc (suc (suc (suc (suc (suc more))))))) caller item uid dest what now = note.Adoption

abbrev pub note_in : Row → JournalRow
note_in row = note_by (number_in (column row 2)) (text_in (column row 3)) (instance_in row)
    (text_in (column row 4)) (text_in (column row 5)) (outcome_in (column row 6))
    (number_in (column row 7))

-- by the line's number
abbrev pub notes_of : Trees → FinMap nat_cmp JournalRow
notes_of db =
    map.from_entries (mapped (λ (row : Row). (number_in (rowid row), note_in row)) (db 11))

-- the line of a note, with where it goes on to
abbrev pub line_of : List Row → ℕ → JournalRow → Line
line_of targets n (note.Arrival caller item) =
    Arrival caller item (targets_in targets n) (keeps_in targets n)
line_of targets n (note.Repeat caller item) = Repeat caller item
line_of targets n (note.Settling uid dest what now) = Settling uid dest what now
line_of targets n (note.Requeuing uid dest) = Requeuing uid dest
line_of targets n (note.Dropping uid dest now) = Dropping uid dest now
line_of targets n (note.Forgetting uid) = Forgetting uid
line_of targets n note.Adoption = Adoption

-- a list of the notes by their numbers, which tells the lines and has each row
pub record IsJournal (db : Trees) (all : List (ℕ × JournalRow)) : Type 0 where
  pub each : AllByRecursion (λ row. Contains all (number_in (rowid row), note_in row)) (db 11)
  pub notes : all ≡ map.entries (notes_of db)
  pub lines : (targets : List Row)
      → mapped (λ (e : ℕ × JournalRow). line_of targets e.0 e.1) all ≡ lines_in targets (db 11)

-- a row's line is that of its note
abbrev pub NotesAreLines : Type 0
NotesAreLines =
    (targets : List Row) (row : Row)
    → line_in targets row ≡ line_of targets (number_in (rowid row)) (note_in row)

-- ---- target

-- a line's number and a name
abbrev pub Goal : Type 0
Goal = ℕ × Text

abbrev pub goal_cmp : Goal → Goal → Ordering
goal_cmp a b = ordering_then (nat_cmp a.0 b.0) (text_cmp a.1 b.1)

abbrev pub goals_of : Trees → FinSet goal_cmp
goals_of db = set.from_list
    (mapped (λ (row : Row). (number_in (column row 1), text_in (column row 2))) (db 12))

-- which names a line has is told by them
abbrev pub GoalsAreNames : Type 0
GoalsAreNames =
    (db : Trees) (n : ℕ) (name : Text)
    → set.contains (goals_of db) (n, name) ≡ map.contains_key (names_in (db 12) n) name

-- ---- rows as lists show them

abbrev pub shown_pair : Row → Text × Text
shown_pair row = (text_in (column row 0), text_in (column row 1))

abbrev pub shown_goal : Row → Goal
shown_goal row = (number_in (column row 0), text_in (column row 1))

abbrev pub shown_key_entry : Row → Text × Key
shown_key_entry row = (
  text_in (column row 0),
  record {
    class = text_in (column row 1);
    syntax = syntax_marked (text_in (column row 2));
    modality = bytes_in (column row 3);
    station = bytes_in (column row 4);
  },
)

abbrev pub shown_print_entry : Row → Text × Print
shown_print_entry row = (
  text_in (column row 0),
  record {
    size = number_in (column row 1);
    digest = bytes_in (column row 2);
    whole = not (number_in (column row 3) == 0);
  },
)

abbrev pub shown_entry : Row → Pair × Progress
shown_entry row = (
  (text_in (column row 0), text_in (column row 1)),
  progress_in (column row 2) (column row 3) (column row 4) (column row 5),
)

abbrev pub shown_settling : Row → JournalRow
shown_settling row = note.Settling (text_in (column row 3)) (text_in (column row 4))
    (outcome_in (column row 5)) (number_in (column row 6))

abbrev pub shown_dropping : Row → JournalRow
shown_dropping row =
    note.Dropping (text_in (column row 3)) (text_in (column row 4)) (number_in (column row 6))

-- the instance of a line, which its last six columns have
abbrev pub shown_instance : Row → Instance
shown_instance row = record {
  uid = text_in (column row 3);
  key = record {
    class = text_in (column row 7);
    syntax = syntax_marked (text_in (column row 8));
    modality = bytes_in (column row 9);
    station = bytes_in (column row 10);
  };
  size = number_in (column row 11);
  digest = bytes_in (column row 12);
}

abbrev pub shown_note : Row → JournalRow
shown_note row = note_by (number_in (column row 1)) (text_in (column row 2)) (shown_instance row)
    (text_in (column row 3)) (text_in (column row 4)) (outcome_in (column row 5))
    (number_in (column row 6))

abbrev pub shown_note_entry : Row → ℕ × JournalRow
shown_note_entry row = (number_in (column row 0), shown_note row)
