-- What the data set of a C-STORE-RQ is read as, whole (PS3.7 6.3 and 9.3.1.1, PS3.5 7).
use Rattle.std.specs.Prelude.{◌≡◌, ℕ, Bool, true, false, List, Option, Some, None, IfSome, Result}
use Rattle.std.specs.Prelude.{Ok, Err}
use Rattle.dr_base.specs.declared.syntax.Syntax.{Syntax}
use Rattle.dr_dimse.specs.declared.command.Command.{Command}
use Rattle.dr_dimse.specs.declared.command.Command.TheVariants.{StoreRq}
use Rattle.dr_dimse.specs.declared.fault.DimseFault.{DimseFault}
use Rattle.dr_dimse.specs.declared.message.Body.{Body}
use Rattle.dr_dimse.specs.declared.message.Body.TheVariants.{Whole}
use Rattle.dr_dimse.specs.declared.message.Message.{Message}
use Rattle.dr_dataset.specs.declared.fault.DataFault.{DataFault}
use Rattle.dr_dataset.specs.declared.hearing.Scan.{Scan}
use Rattle.dr_dataset.specs.declared.values.Attributes.{Attributes}
use Rattle.dr_dataset.specs.DataSet.{Scans}
use Rattle.dr_dataset.specs.Hearing.{Hears}
use Rattle.dr_dimse_scan.specs.declared.heard.HeardMessage.{HeardMessage}

-- ---- which data sets are read

-- a C-STORE-RQ (PS3.7 9.3.1.1)
abbrev pub is_store : Command → Bool
is_store (StoreRq id class instance) = true
is_store c = false

-- the data set of a C-STORE-RQ; none of any other command, whatever follows it
abbrev pub store_in : Command → Option Body → Option Body
store_in (StoreRq id class instance) body = body
store_in c body = None

-- its bytes; none where it is too large, as they aren't kept
abbrev pub bytes_in : Option Body → Option (List ℕ)
bytes_in (Some (Whole text)) = Some text
bytes_in b = None

-- the bytes of the data set that a C-STORE-RQ brings, all of them
abbrev pub store_text : Message → Option (List ℕ)
store_text m = bytes_in (store_in m.command m.body)

-- ---- what they are read as

-- What such bytes, all of them, are read as in that syntax: their four attributes, or their first
-- fault. Nothing is read where there are none, or where no syntax is named.
abbrev pub ReadsStore : Option Syntax → Option (List ℕ)
    → Option (Result Attributes DataFault)
    → Type 0
ReadsStore (Some s) (Some text) (Some found) = Scans s text found
ReadsStore (Some s) (Some text) None = ⊥
ReadsStore (Some s) None found = found ≡ None
ReadsStore None text found = found ≡ None

-- the scan has heard such bytes, all of them, in that syntax
abbrev pub IsScanOf : Option Syntax → Option (List ℕ) → Scan → Type 0
IsScanOf (Some s) (Some text) scan = Hears s text scan
IsScanOf s text scan = ⊥

-- if a message comes with a scan, that has heard its data set
abbrev pub HasScan : Option Syntax → HeardMessage → Type 0
HasScan s h = IfSome h.scan (λ b. IsScanOf s (store_text h.message) b.value)

-- ---- the assembly's answer

-- an answer without its scan
abbrev pub message_of : Result (Option HeardMessage) DimseFault → Result (Option Message) DimseFault
message_of (Ok None) = Ok None
message_of (Ok (Some h)) = Ok (Some h.message)
message_of (Err fault) = Err fault
