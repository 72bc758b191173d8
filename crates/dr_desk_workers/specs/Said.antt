-- The status of a response, as the bytes say it that a session writes.
use Rattle.std.specs.Prelude.{◌≡◌, ◌≢◌, ℕ, List, [], Option, None, Some, Result, Err}
use Rattle.std.specs.Prelude.{if◌then◌else◌}
use Rattle.std.specs.List.{flat_map}
use Rattle.dr_pdu.specs.declared.fault.PduFault.{PduFault}
use Rattle.dr_pdu.specs.declared.fault.PduFault.TheVariants.{Memory}
use Rattle.dr_pdu.specs.declared.pdu.Pdu.{Pdu}
use Rattle.dr_pdu.specs.declared.pdu.Pdv.{Pdv}
use Rattle.dr_pdu.specs.Feeding.{Feeding, Feeds, fresh, given_by}
use Rattle.dr_dimse.specs.Commands.{IsCommand, status_of}
use Rattle.dr_dimse.specs.Messages.{is_command}
use Rattle.dr_dimse.specs.Written.{CommandFits}
use Rattle.dr_dimse.specs.declared.command.Command.{Command}
use Rattle.dr_nego.specs.Agreeing.{IsTooSmall}
use Rattle.dr_nego.specs.Fragments.{spellings}
use Rattle.dr_nego.specs.Laws.{values_in}
use Rattle.dr_session.specs.Messages.{command_pdus}

-- what a value brings of a command: its fragment, unless that is of a data set
abbrev pub fragment_of : Pdv → List ℕ
fragment_of value = if is_command value then value.fragment else []

-- what a PDU brings of commands, and several do, one behind the other
abbrev pub command_in : Pdu → List ℕ
command_in pdu = flat_map fragment_of (values_in pdu)

abbrev pub command_text : List Pdu → List ℕ
command_text pdus = flat_map command_in pdus

-- a text says that status: it spells a command that has it; or it spells none that has one
abbrev pub TellsStatus : List ℕ → Option ℕ → Type 0
TellsStatus text None = (c : Command) → IsCommand text c → status_of c ≡ None
TellsStatus text (Some status) = (c : Command) × IsCommand text c × (status_of c ≡ Some status)

-- these PDUs come out of the bytes at an end that has heard nothing yet and sets no limit
abbrev pub ComesOut : List ℕ → List Pdu → Type 0
ComesOut bytes pdus =
    (came : Result (List Pdu) PduFault) × (new : Feeding)
    × (came ≢ Err Memory) × Feeds (fresh 0) bytes came new × (pdus ≡ given_by came)

-- bytes say a status (PS3.7 9.3.1.2, 9.3.5.2): the command that their PDUs bring has it
abbrev pub SaysStatus : List ℕ → Option ℕ → Type 0
SaysStatus bytes said =
    (pdus : List Pdu) × ComesOut bytes pdus × TellsStatus (command_text pdus) said

-- ---- laws

-- bytes say one status at most
abbrev pub OneStatus : Type 0
OneStatus =
    (bytes : List ℕ) (one other : Option ℕ)
    → SaysStatus bytes one → SaysStatus bytes other → one ≡ other

-- What a session writes as a response says the status of just that response, in whichever context
-- and in however many fragments it is.
abbrev pub ResponsesSayTheirStatus : Type 0
ResponsesSayTheirStatus =
    (limit context : ℕ) (c : Command) (said : Option ℕ)
    → (IsTooSmall limit → ⊥)
    → CommandFits c
    → SaysStatus (spellings (command_pdus limit context c)) said
    → said ≡ status_of c
