-- How the word `adopt` ends: what is printed, and the exit status.
use Rattle.std.specs.Prelude.{◌≡◌, ◌∷◌, ◌++◌, [], codes, Bool, List, Result, Ok, Err}
use Rattle.std.specs.declared.option.Option.{Option}
use Rattle.std.specs.Io.KnownBytes.{Appends}
use Rattle.dr_base.specs.Texts.{Text}
use Rattle.dr_run_open.specs.declared.status.Status.{Status}
use Rattle.dr_run_open.specs.declared.status.Status.TheVariants as ends
use Rattle.dr_word_line.specs.declared.words.PlanChange.{PlanChange}
use Rattle.dr_ledger.specs.Books.{Book}
use Rattle.dr_run_open.specs.Ends.{printed_by, status_by}
use Rattle.dr_run_open.specs.declared.halt.Halt.{Halt}
use Rattle.dr_ledger_report.specs.Reports.{line_of}
use Rattle.dr_site.specs.Parts.{Part}
use Rattle.dr_word_adopt.specs.Changes.{Changes}
use Rattle.dr_word_adopt.specs.declared.change.Changeover.{Changeover}
use Rattle.dr_word_adopt.specs.declared.change.Changeover.TheVariants.{Made, Unfit}

-- what is printed where all nodes went over
abbrev pub adopted_line : Text
adopted_line = codes "adopted" ++ (10 ∷ [])

-- what is printed where a row isn't one that the next plan goes on with: the node, the instance and
-- the destination
abbrev pub unfit_line : Text → Text → Text → Text
unfit_line node uid dest = line_of (codes "no") (codes "U1 Unfit" ∷ node ∷ uid ∷ dest ∷ [])

-- what the word comes to is printed after what the output held, and the program ends with its
-- status
abbrev pub EndsChange : Result Changeover Halt → Option Text → Option Text → Status → Type 0
EndsChange (Ok Made) old new status = Appends old new adopted_line × (status ≡ ends.Success)
EndsChange (Ok (Unfit node uid dest)) old new status =
    Appends old new (unfit_line node uid dest) × (status ≡ ends.Refused)
EndsChange (Err halt) old new status = Appends old new (printed_by halt) × (status ≡ status_by halt)

-- The word `adopt`: what comes of the change from the plan in the first file to that in the third,
-- of the ledgers in the folder, of all nodes but the others, what is printed of it, and the exit
-- status.
abbrev pub AdoptsFiles : {L : Type 0} (holds : Text → Text → Type 0) (opens : Text → L → Type 0)
    (shows : Text → Bool → Type 0) (site_of : L → Part) (book : L → Book) (stands : L → Type 0)
    → PlanChange → List Text → Option Text → Option Text → Status → Type 0
AdoptsFiles holds opens shows site_of book stands files others old new status =
    (came : Result Changeover Halt)
    × Changes holds opens shows site_of book stands files others came
    × EndsChange came old new status
