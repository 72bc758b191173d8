-- What an assembly holds, as the stage that it is in.
use Rattle.std.specs.Prelude.{ℕ, Bool, true, false, List, [], Option, Some, None, Result, Ok, Err}
use Rattle.std.specs.Borrow.{Bor}
use Rattle.dr_dimse.specs.declared.assembly.UnderWay.{UnderWay}
use Rattle.dr_dimse.specs.declared.assembly.UnderWay.TheVariants.{Nothing, ACommand, ADataSet}
use Rattle.dr_dimse.specs.declared.command.Command.{Command}
use Rattle.dr_dimse.specs.declared.fault.DimseFault.{DimseFault}
use Rattle.dr_dimse.specs.declared.fault.DimseFault.TheVariants.{OutOfPlace, BadCommand, Memory}
use Rattle.dr_dimse.specs.declared.message.Awaited.{Awaited}
use Rattle.dr_dimse.specs.declared.message.Body.{Body}
use Rattle.dr_dimse.specs.declared.message.Body.TheVariants.{Whole, TooLarge}
use Rattle.dr_dimse.specs.Commands.{IsCommand}
use Rattle.dr_dimse.specs.Taking.{MessageStage, Idle, InCommand, InData, IsAwaited}

-- the data set that is under way, by whether it is too large and its bytes so far
abbrev pub so_far : Bool → List ℕ → Body
so_far true bytes = TooLarge
so_far false bytes = Whole bytes

-- buffers that nothing is under way for hold nothing that counts
abbrev pub stage_of : UnderWay → List ℕ → Body → MessageStage
stage_of Nothing text body = Idle
stage_of (ACommand id) text body = InCommand id text
stage_of (ADataSet id c) text body = InData id c body

-- the bytes of the command that is under way
abbrev pub text_held : UnderWay → List ℕ → List ℕ
text_held (ACommand id) text = text
text_held u text = []

-- an answer that borrows its command, without where that lies
abbrev pub shown_of : Option (ℕ × Bor Command) → Option (ℕ × Command)
shown_of None = None
shown_of (Some x) = Some (x.0, x.1.now)

-- the awaited command of a text, or why there is none
abbrev pub ReadsAwaited : Awaited → List ℕ → Result Command DimseFault → Type 0
ReadsAwaited awaited text (Ok c) = IsCommand text c × IsAwaited awaited c
ReadsAwaited awaited text (Err BadCommand) = (c : Command) → IsCommand text c → ⊥
ReadsAwaited awaited text (Err OutOfPlace) =
    (c : Command) × IsCommand text c × (IsAwaited awaited c → ⊥)
ReadsAwaited awaited text (Err Memory) = Unit {0}
ReadsAwaited awaited text (Err fault) = ⊥
