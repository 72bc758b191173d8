-- What an input comes to, for an end that knows what it agreed on and what is under way.
use Rattle.std.specs.Prelude.{◌≡◌, ◌≢◌, ◌⊎◌, ℕ, Option, Some, None, Result, Ok, Err, MatchOption}
use Rattle.dr_base.specs.Texts.{Text}
use Rattle.dr_base.specs.Syntaxes.{syntax_uid, NamesNoSyntax}
use Rattle.dr_base.specs.declared.syntax.Syntax.{Syntax}
use Rattle.dr_ulstate.specs.declared.table.State.{State}
use Rattle.dr_ulstate.specs.declared.table.State.TheVariants.{Sta6, Sta7}
use Rattle.dr_ulstate.specs.declared.table.Action.{Action}
use Rattle.dr_ulstate.specs.declared.table.Action.TheVariants.{Ae3, Dt2, Ar6}
use Rattle.dr_ulstate.specs.declared.table.Event.{Event}
use Rattle.dr_ulstate.specs.declared.table.Event.TheVariants.{AssociateAcPdu, DataPdu}
use Rattle.dr_ulstate.specs.Table.{action_of}
use Rattle.dr_ulstate.specs.Phases.{state_of}
use Rattle.dr_pdu.specs.declared.pdu.Pdv.{Pdv}
use Rattle.dr_dimse.specs.declared.command.Command.{Command}
use Rattle.dr_dimse.specs.declared.command.Command.TheVariants.{StoreRq}
use Rattle.dr_dimse.specs.declared.fault.DimseFault.{DimseFault}
use Rattle.dr_dimse.specs.declared.fault.DimseFault.TheVariants as dimse
use Rattle.dr_dimse.specs.declared.message.Body.{Body}
use Rattle.dr_dimse.specs.declared.message.Body.TheVariants as body
use Rattle.dr_dimse.specs.declared.message.Message.{Message}
use Rattle.dr_dimse.specs.Taking.{MessageStage, TakesValue}
use Rattle.dr_ledger.specs.declared.content.Job.{Job}
use Rattle.dr_ledger.specs.declared.content.ItemFault.{ItemFault}
use Rattle.dr_ledger.specs.declared.content.ItemFault.TheVariants as items
use Rattle.dr_ledger.specs.Items.{ReadsItem}
use Rattle.dr_nego.specs.declared.agreed.Pair.{Pair}
use Rattle.dr_nego.specs.declared.agreed.Agreed.{Agreed}
use Rattle.dr_nego.specs.Agreeing.{AssociateRq, AssociateAc, pair_at, Concludes}
use Rattle.dr_nego.specs.declared.fault.NegoFault.{NegoFault}
use Rattle.dr_session.specs.declared.ends.Input.{Input}
use Rattle.dr_session.specs.declared.ends.Input.TheVariants.{Acceptance, Value}
use Rattle.dr_session.specs.declared.ends.Found.{Found}
use Rattle.dr_session.specs.declared.ends.Found.TheVariants.{Read, Nameless, Unreadable, TooLarge}
use Rattle.dr_session.specs.declared.ends.Told.{Told}
use Rattle.dr_session.specs.declared.ends.Told.TheVariants.{Plain, Quiet, Fault, Strange, Store}
use Rattle.dr_session.specs.declared.ends.Told.TheVariants.{Whole, Agreement}
use Rattle.dr_session.specs.declared.ends.Core.{Core}

abbrev pub state_at : Core → State
state_at c = state_of c.phase

-- ---- data sets

-- what a data set was read as; one without its class or its UID can be read. Want of memory comes
-- to nothing
abbrev pub Finds : Result Job ItemFault → Found → Type 0
Finds (Ok item) found = found ≡ Read item
Finds (Err items.Data) found = found ≡ Unreadable
Finds (Err items.NoUid) found = found ≡ Nameless
Finds (Err items.TooLarge) found = found ≡ TooLarge
Finds (Err items.Memory) found = ⊥

-- it is read by the transfer syntax of its context; by another than the two it can't be
abbrev pub FindsIn : Text → Body → Found → Type 0
FindsIn syntax (body.Whole text) found =
    ((s : Syntax)
    × (read : Result Job ItemFault)
    × (syntax ≡ syntax_uid s) × ReadsItem s text read × Finds read found)
    ⊎ (((s : Syntax) → syntax ≢ syntax_uid s) × (found ≡ Unreadable))
FindsIn syntax body.TooLarge found = found ≡ TooLarge

-- the transfer syntax that a UID names: one of the two, or none
abbrev pub NamesSyntax : Text → Option Syntax → Type 0
NamesSyntax uid syntax = MatchOption syntax (NamesNoSyntax uid) (λ s. uid ≡ syntax_uid s)

-- by the syntax that the context's transfer syntax names
abbrev pub FindsAs : Option Syntax → Body → Found → Type 0
FindsAs (Some s) (body.Whole text) found =
    (read : Result Job ItemFault) × ReadsItem s text read × Finds read found
FindsAs None (body.Whole text) found = found ≡ Unreadable
FindsAs s body.TooLarge found = found ≡ TooLarge

-- ---- a value

abbrev pub SaysOf : Pair → ℕ → Option Body → Command → Told → Type 0
SaysOf x id (Some b) (StoreRq n class instance) told = (found : Found) × FindsIn x.syntax b found
    × (told ≡ Store id x.class n class instance found)
SaysOf x id b c told = told ≡ Whole id x.class c

-- what the assembly's answer comes to; want of memory comes to nothing
abbrev pub Says : Pair → Result (Option Message) DimseFault → Told → Type 0
Says x (Ok None) told = told ≡ Quiet
Says x (Ok (Some m)) told = SaysOf x m.id m.body m.command told
Says x (Err dimse.Memory) told = ⊥
Says x (Err fault) told = told ≡ Fault

-- a value in an accepted context goes to the assembly
abbrev pub TellsIn : Option Pair → Core → Pdv → Told → MessageStage → Type 0
TellsIn None c p told stage = (told ≡ Strange) × (stage ≡ c.assembly.stage)
TellsIn (Some x) c p told stage =
    (answer : Result (Option Message) DimseFault)
    × TakesValue c.assembly.awaited c.assembly.stage p answer stage
    × Says x answer told

abbrev pub TellsValue : Option Agreed → Core → Pdv → Told → MessageStage → Type 0
TellsValue None c p told stage = (told ≡ Strange) × (stage ≡ c.assembly.stage)
TellsValue (Some agreed) c p told stage = TellsIn (pair_at agreed p.id) c p told stage

-- the states in which the table takes data
abbrev pub TakesData : State → Type 0
TakesData s = (s ≡ Sta6) ⊎ (s ≡ Sta7)

-- ---- an acceptance

-- what it agrees on with the request that was proposed; an end that awaits an answer has proposed
-- one
abbrev pub TellsAcceptance : Option AssociateRq → AssociateAc → Told → Type 0
TellsAcceptance None ac told = told ≡ Plain (Acceptance ac)
TellsAcceptance (Some rq) ac told =
    (answer : Result Agreed NegoFault) × Concludes rq ac answer × (told ≡ Agreement answer)

-- ---- any input

-- a value is looked into where the table takes data, an acceptance where it awaits one
abbrev pub Looks : Option Action → Core → Input → Told → MessageStage → Type 0
Looks (Some Dt2) c (Value p) told stage = TellsValue c.agreed c p told stage
Looks (Some Ar6) c (Value p) told stage = TellsValue c.agreed c p told stage
Looks (Some Ae3) c (Acceptance ac) told stage =
    TellsAcceptance c.proposed ac told × (stage ≡ c.assembly.stage)
Looks a c i told stage = (told ≡ Plain i) × (stage ≡ c.assembly.stage)

abbrev pub event_of_input : Input → Option Event
event_of_input (Acceptance ac) = Some AssociateAcPdu
event_of_input (Value p) = Some DataPdu
event_of_input i = None

abbrev pub action_at : Core → Option Event → Option Action
action_at c None = None
action_at c (Some e) = action_of e (state_at c)

abbrev pub Tells : Core → Input → Told → MessageStage → Type 0
Tells c i told stage = Looks (action_at c (event_of_input i)) c i told stage
