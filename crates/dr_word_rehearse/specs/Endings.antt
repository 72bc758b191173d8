-- How the word `adopt --dry-run` ends: what is printed, and the exit status.
use Rattle.std.specs.Prelude.{◌≡◌, Bool, true, false, cond, not, List, [], ◌∷◌, ◌++◌, codes}
use Rattle.std.specs.Prelude.{flat_map}
use Rattle.std.specs.Prelude.{Option, Result, Ok, Err}
use Rattle.std.specs.List.{list_any}
use Rattle.std.specs.Io.KnownBytes.{Appends}
use Rattle.dr_base.specs.Texts.{Text}
use Rattle.dr_ledger.specs.Books.{Book}
use Rattle.dr_ledger.specs.Pairs.{Pair}
use Rattle.dr_ledger_report.specs.Reports.{line_of}
use Rattle.dr_run_open.specs.Ends.{printed_by, status_by}
use Rattle.dr_run_open.specs.declared.halt.Halt.{Halt}
use Rattle.dr_run_open.specs.declared.status.Status.{Status}
use Rattle.dr_run_open.specs.declared.status.Status.TheVariants as ends
use Rattle.dr_site.specs.Parts.{Part}
use Rattle.dr_word_adopt.specs.Endings.{unfit_line}
use Rattle.dr_word_line.specs.declared.words.PlanChange.{PlanChange}
use Rattle.dr_word_rehearse.specs.Rehearsals.{RehearsesFiles}
use Rattle.dr_word_rehearse.specs.declared.looking.LedgerLook.{LedgerLook}
use Rattle.dr_word_rehearse.specs.declared.looking.LedgerLook.TheVariants.{Nothing, Older, Rows}
use Rattle.dr_word_rehearse.specs.declared.looking.Looked.{Looked}

-- what is printed where all nodes would go over
abbrev pub fits_line : Text
fits_line = codes "fits" ++ (10 ∷ [])

-- the line of a row of the node with which the next plan doesn't go on, as `adopt` prints it
abbrev pub row_line : Text → Pair → Text
row_line node row = unfit_line node row.0 row.1

-- What is printed of a node: that it has no ledger; that its file would first have to be brought
-- over; or its rows, a line each.
abbrev pub look_lines : Text → LedgerLook → Text
look_lines node Nothing = line_of (codes "missing") (node ∷ [])
look_lines node Older = line_of (codes "older") (node ∷ [])
look_lines node (Rows rows) = flat_map (row_line node) rows.items

abbrev pub lines_of : Looked → Text
lines_of looked = look_lines looked.node looked.look

-- there is one
abbrev pub is_some_row : List Pair → Bool
is_some_row [] = false
is_some_row (row ∷ rows) = true

-- the node stands in the way, as far as is known: a row doesn't fit, its rows weren't looked at, or
-- it has no ledger
abbrev pub is_in_the_way : LedgerLook → Bool
is_in_the_way Nothing = true
is_in_the_way Older = true
is_in_the_way (Rows rows) = is_some_row rows.items

abbrev pub stands_in_the_way : Looked → Bool
stands_in_the_way looked = is_in_the_way looked.look

-- whether no node stands in the way
abbrev pub fits : List Looked → Bool
fits all = not (list_any stands_in_the_way all)

-- what is printed of all nodes
abbrev pub printed_of : List Looked → Text
printed_of all = flat_map lines_of all ++ cond (fits all) fits_line []

-- What was shown is printed after what the output held. Where all nodes were looked at, the word
-- succeeds just if none stands in the way; else it ends as its halt says.
abbrev pub EndsRehearsal : Result (Unit {0}) Halt → List Looked → Option Text → Option Text
    → Status → Type 0
EndsRehearsal (Ok done) all old new status =
    Appends old new (printed_of all) × (status ≡ cond (fits all) ends.Success ends.Refused)
EndsRehearsal (Err halt) all old new status =
    Appends old new (flat_map lines_of all ++ printed_by halt) × (status ≡ status_by halt)

-- The word `adopt --dry-run`: what comes of the rehearsal for all nodes but the others, what is
-- printed of it, and the exit status.
abbrev pub Rehearses : {L : Type 0} (holds : Text → Text → Type 0) (opens : Text → L → Type 0)
    (shows : Text → Bool → Type 0) (site_of : L → Part) (book : L → Book) (stands : L → Type 0)
    → PlanChange → List Text → Option Text → Option Text → Status → Type 0
Rehearses holds opens shows site_of book stands files others old new status =
    (came : Result (Unit {0}) Halt) × (all : List Looked)
    × RehearsesFiles holds opens shows site_of book stands files others came all
    × EndsRehearsal came all old new status
