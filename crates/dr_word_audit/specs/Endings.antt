-- How the word `audit` ends: what is printed, and the exit status.
use Rattle.std.specs.Prelude.{◌≡◌, List, Result, Ok, Err}
use Rattle.std.specs.declared.option.Option.{Option}
use Rattle.std.specs.Io.KnownBytes.{Appends}
use Rattle.dr_base.specs.Texts.{Text}
use Rattle.dr_ledger.specs.Books.{Book}
use Rattle.dr_run_open.specs.Ends.{printed_by, status_by}
use Rattle.dr_run_open.specs.declared.halt.Halt.{Halt}
use Rattle.dr_run_open.specs.declared.status.Status.{Status}
use Rattle.dr_run_open.specs.declared.status.Status.TheVariants as ends
use Rattle.dr_site.specs.Parts.{Part}
use Rattle.dr_word_line.specs.declared.words.SiteFiles.{SiteFiles}
use Rattle.dr_word_audit.specs.Audits.{Audits}
use Rattle.dr_word_audit.specs.declared.audited.Audited.{Audited}
use Rattle.dr_word_audit.specs.declared.audited.Audited.TheVariants.{Holds, No}

-- what the word comes to is printed after what the output held, and the program ends with its
-- status
abbrev pub EndsAudit : Result Audited Halt → Option Text → Option Text → Status → Type 0
EndsAudit (Ok (Holds text)) old new status = Appends old new text × (status ≡ ends.Success)
EndsAudit (Ok (No text)) old new status = Appends old new text × (status ≡ ends.Refused)
EndsAudit (Err halt) old new status = Appends old new (printed_by halt) × (status ≡ status_by halt)

-- The word `audit`: what comes of the audit by the plan and the certificate in these files, of the
-- ledgers in the folder, of all nodes but the others, what is printed of it, and the exit status.
abbrev pub EndsAs : {L : Type 0} (holds : Text → Text → Type 0) (opens : Text → L → Type 0)
    (site_of : L → Part) (book : L → Book) (stands : L → Type 0)
    → SiteFiles → List Text → Option Text → Option Text → Status → Type 0
EndsAs holds opens site_of book stands files others old new status =
    (came : Result Audited Halt)
    × Audits holds opens site_of book stands files others came
    × EndsAudit came old new status
