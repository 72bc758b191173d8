-- The status of HTTP with which a request is answered (RFC 9110 15), and the line that names why.
use Rattle.std.specs.Prelude.{◌≡◌, ◌⊎◌, ℕ, [], Result, Ok, Err, codes}
use Rattle.dr_base.specs.Texts.{Text}
use Rattle.dr_ledger.specs.declared.fault.LedgerFault.{LedgerFault}
use Rattle.dr_ledger.specs.declared.fault.LedgerFault.TheVariants as ledger
use Rattle.dr_run_answer.specs.Answers.{done_line, fault_line}
use Rattle.dr_run_backup.specs.Faults.{name_of_copy}
use Rattle.dr_run_backup.specs.declared.fault.BackupFault.{BackupFault}
use Rattle.dr_run_backup.specs.declared.fault.BackupFault.TheVariants as copy
use Rattle.dr_run_open.specs.Codes.{code_of}
use Rattle.dr_run_request.specs.declared.admission.Refused.{Refused}
use Rattle.dr_run_request.specs.declared.admission.Refused.TheVariants as refused
use Rattle.dr_run_request.specs.declared.wanted.FormFault.{FormFault}
use Rattle.dr_run_request.specs.declared.wanted.FormFault.TheVariants as form

abbrev pub status_of_refusal : Refused → ℕ
status_of_refusal refused.Host = 421
status_of_refusal refused.Origin = 403
status_of_refusal refused.Path = 404
status_of_refusal refused.Method = 405
status_of_refusal refused.Closed = 403
status_of_refusal refused.Token = 401
status_of_refusal refused.Key = 403

abbrev pub status_of_form : FormFault → ℕ
status_of_form form.Field = 400
status_of_form form.Memory = 503

-- what the ledger refuses is a conflict with what it has; that its store failed, or memory ran out,
-- may be better later
abbrev pub status_of_fault : LedgerFault → ℕ
status_of_fault ledger.NoLine = 409
status_of_fault ledger.Conflict = 409
status_of_fault ledger.NotWaiting = 409
status_of_fault ledger.NotHeld = 409
status_of_fault ledger.NotOver = 409
status_of_fault ledger.Store = 503
status_of_fault ledger.Memory = 503

-- the status of a copy that wasn't made: its path is none, or it is in conflict with what is there
-- or goes on, or with what the ledger is, or it may be better later
abbrev pub status_of_copy : BackupFault → ℕ
status_of_copy copy.NoPath = 400
status_of_copy copy.OwnFile = 409
status_of_copy copy.IsThere = 409
status_of_copy copy.Busy = 409
status_of_copy copy.DataFile = 409
status_of_copy copy.GivenUp = 503
status_of_copy (copy.NoCopy error) = 503
status_of_copy copy.Memory = 503

-- the name of a refusal
abbrev pub name_of_refusal : Refused → Text
name_of_refusal refused.Host = codes "Host"
name_of_refusal refused.Origin = codes "Origin"
name_of_refusal refused.Path = codes "Path"
name_of_refusal refused.Method = codes "Method"
name_of_refusal refused.Closed = codes "Closed"
name_of_refusal refused.Token = codes "Token"
name_of_refusal refused.Key = codes "Key"

-- the name of what is wrong with a form
abbrev pub name_of_form : FormFault → Text
name_of_form form.Field = codes "Field"
name_of_form form.Memory = codes "Memory"

-- the status by which what the ledger answered to an act is told
abbrev pub status_of_answer : Result (Unit {0}) LedgerFault → ℕ
status_of_answer (Ok done) = 200
status_of_answer (Err why) = status_of_fault why

-- and the line
abbrev pub line_of_answer : Result (Unit {0}) LedgerFault → Text
line_of_answer (Ok done) = done_line
line_of_answer (Err why) = fault_line (code_of why)

-- the status by which what came of a copy is told, and the line
abbrev pub status_of_backup : Result (Unit {0}) BackupFault → ℕ
status_of_backup (Ok done) = 200
status_of_backup (Err why) = status_of_copy why

abbrev pub line_of_backup : Result (Unit {0}) BackupFault → Text
line_of_backup (Ok done) = done_line
line_of_backup (Err why) = fault_line (name_of_copy why)

-- the text is that line; or it is none, where there was no memory for it
abbrev pub IsToldIn : Text → Text → Type 0
IsToldIn line text = (text ≡ line) ⊎ (text ≡ [])
