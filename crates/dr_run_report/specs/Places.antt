-- Whether a report may take the place of what is at a path, and whether a copy may be made there.
use Rattle.std.specs.Prelude.{◌≡◌, ◌⊎◌, List, Contains, Result, Ok, Err}
use Rattle.dr_run_report.specs.Names.{IsLedgerName}
use Rattle.dr_run_report.specs.declared.judging.FileId.{FileId}
use Rattle.dr_run_report.specs.declared.judging.PathTarget.{PathTarget}
use Rattle.dr_run_report.specs.declared.judging.PathTarget.TheVariants.{Nothing, Report, Other}
use Rattle.dr_run_report.specs.declared.judging.ReportPlace.{ReportPlace}
use Rattle.dr_run_report.specs.declared.judging.ReportFault.{ReportFault}
use Rattle.dr_run_report.specs.declared.judging.ReportFault.TheVariants.{OwnFile, NoReport, IsThere}
use Rattle.dr_run_report.specs.declared.judging.Spot.{Spot}

-- one of the files has this device and number
abbrev pub IsFileOf : List FileId → FileId → Type 0
IsFileOf files id = (file : FileId) × Contains files file × (file ≡ id)

-- what was found is one of the files, whatever it is called
abbrev pub IsAmong : List FileId → PathTarget → Type 0
IsAmong files Nothing = ⊥
IsAmong files (Report id) = IsFileOf files id
IsAmong files (Other id) = IsFileOf files id

-- the ledger whose database stands there takes the name, in the same folder
abbrev pub TakesName : Spot → Spot → Type 0
TakesName spot ledger = (ledger.folder ≡ spot.folder) × IsLedgerName ledger.name spot.name

-- one of the spots at which the ledger's database stands takes the name
abbrev pub IsTakenBy : List Spot → Spot → Type 0
IsTakenBy ledgers spot = (ledger : Spot) × Contains ledgers ledger × TakesName spot ledger

-- the ledger takes the name, whether a file is there or not, or what is there is one of the node's
-- own files
abbrev pub IsOwn : List Spot → List FileId → ReportPlace → Type 0
IsOwn ledgers files place = IsTakenBy ledgers place.spot ⊎ IsAmong files place.found

-- no file is there, or one that begins as a report does
abbrev pub HasRoom : PathTarget → Type 0
HasRoom Nothing = Unit {0}
HasRoom (Report id) = Unit {0}
HasRoom (Other id) = ⊥

-- What is answered of a place: a report may be written there just where it isn't the node's own and
-- has room. That it is the node's own
-- comes first.
abbrev pub JudgesPlace : List Spot → List FileId → ReportPlace
    → Result (Unit {0}) ReportFault
    → Type 0
JudgesPlace ledgers files place (Ok done) = (IsOwn ledgers files place → ⊥) × HasRoom place.found
JudgesPlace ledgers files place (Err OwnFile) = IsOwn ledgers files place
JudgesPlace ledgers files place (Err NoReport) =
    (IsOwn ledgers files place → ⊥) × (HasRoom place.found → ⊥)
JudgesPlace ledgers files place (Err IsThere) = ⊥

-- What is answered of a place at which a file of a copy is to be made: it may just where the ledger
-- doesn't take the name and nothing is there, not even a link. That the ledger takes it comes
-- first.
abbrev pub JudgesNew : List Spot → ReportPlace → Result (Unit {0}) ReportFault → Type 0
JudgesNew ledgers place (Ok done) =
    (IsTakenBy ledgers place.spot → ⊥) × (place.found ≡ Nothing)
JudgesNew ledgers place (Err OwnFile) = IsTakenBy ledgers place.spot
JudgesNew ledgers place (Err NoReport) = ⊥
JudgesNew ledgers place (Err IsThere) =
    (IsTakenBy ledgers place.spot → ⊥) × (place.found ≡ Nothing → ⊥)
