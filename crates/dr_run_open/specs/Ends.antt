-- How a word ends: what is printed, and the exit status.
use Rattle.std.specs.Prelude.{◌≡◌, ℕ, List, [], Result, Ok, Err}
use Rattle.std.specs.declared.option.Option.{Option}
use Rattle.std.specs.Io.KnownBytes.{Appends}
use Rattle.dr_base.specs.Texts.{Text}
use Rattle.dr_cert.specs.declared.fault.CertFault.TheVariants as certificate
use Rattle.dr_run_open.specs.Answers.{printed_for, status_for}
use Rattle.dr_run_open.specs.declared.status.Status.{Status}
use Rattle.dr_run_open.specs.declared.status.Status.TheVariants as ends
use Rattle.dr_ledger.specs.declared.fault.LedgerFault.TheVariants as ledger
use Rattle.dr_run_open.specs.Instances.{instance_status}
use Rattle.dr_run_open.specs.declared.halt.Halt.{Halt}
use Rattle.dr_run_open.specs.declared.halt.Halt.TheVariants.{NoPlan, NoCertificate, NoNode}
use Rattle.dr_run_open.specs.declared.halt.Halt.TheVariants.{NotOpened, NoInstance, Refused}
use Rattle.dr_run_open.specs.declared.halt.Halt.TheVariants.{Receipt, Failed, Memory}
use Rattle.dr_run_open.specs.declared.ledgers.OpenFault.TheVariants as opening

-- what is printed where a word comes to nothing: what is printed for a text that is no plan, and
-- else nothing
abbrev pub printed_by : Halt → Text
printed_by (NoPlan answer) = printed_for answer
printed_by (NoCertificate fault) = []
printed_by NoNode = []
printed_by (NotOpened fault) = []
printed_by (NoInstance fault) = []
printed_by (Refused fault) = []
printed_by Receipt = []
printed_by (Failed failure) = []
printed_by Memory = []

-- the exit status where a word comes to nothing: refused, but for a store or a stream that failed,
-- and want of memory
abbrev pub status_by : Halt → Status
status_by (NoPlan answer) = status_for answer
status_by (NoCertificate certificate.Text) = ends.Refused
status_by (NoCertificate certificate.OtherPlan) = ends.Refused
status_by (NoCertificate certificate.MissingLine) = ends.Refused
status_by (NoCertificate certificate.WrongRank) = ends.Refused
status_by (NoCertificate certificate.NoContext) = ends.Refused
status_by (NoCertificate certificate.DeadEnd) = ends.Refused
status_by (NoCertificate certificate.HopList) = ends.Refused
status_by (NoCertificate certificate.Order) = ends.Refused
status_by (NoCertificate certificate.Memory) = ends.Memory
status_by NoNode = ends.Refused
status_by (NotOpened opening.OtherSite) = ends.Refused
status_by (NotOpened opening.NoData) = ends.Refused
status_by (NotOpened opening.InUse) = ends.InputOutput
status_by (NotOpened opening.Store) = ends.InputOutput
status_by (NotOpened opening.NoLedger) = ends.InputOutput
status_by (NotOpened opening.IsThere) = ends.Refused
status_by (NotOpened opening.DataIsThere) = ends.Refused
status_by (NotOpened opening.Memory) = ends.Memory
status_by (NoInstance fault) = instance_status fault
status_by (Refused ledger.NoLine) = ends.Refused
status_by (Refused ledger.Conflict) = ends.Refused
status_by (Refused ledger.Store) = ends.InputOutput
status_by (Refused ledger.NotWaiting) = ends.Refused
status_by (Refused ledger.NotHeld) = ends.Refused
status_by (Refused ledger.NotOver) = ends.Refused
status_by (Refused ledger.Memory) = ends.Memory
status_by Receipt = ends.Refused
status_by (Failed failure) = ends.InputOutput
status_by Memory = ends.Memory

-- what a word comes to is printed after what the output held, and the program ends with its status
abbrev pub Ends : Result Text Halt → Option (List ℕ) → Option (List ℕ) → Status → Type 0
Ends (Ok text) old new status = Appends old new text × (status ≡ ends.Success)
Ends (Err halt) old new status = Appends old new (printed_by halt) × (status ≡ status_by halt)
