-- One end over its life: how it begins, what each call does, and how it ended.
use Rattle.std.specs.Prelude.{◌≡◌, ◌⊎◌, ℕ, Bool, true, false, List, [], ◌∷◌, if◌then◌else◌, Option}
use Rattle.std.specs.Prelude.{Some, None, Result, Ok, Err}
use Rattle.std.specs.declared.alloc.AllocError.{AllocError}
use Rattle.dr_base.specs.Texts.{Text}
use Rattle.dr_ulstate.specs.declared.table.State.{State}
use Rattle.dr_ulstate.specs.declared.table.State.TheVariants.{Sta1, Sta2, Sta5, Sta13}
use Rattle.dr_ulstate.specs.declared.phase.Next.{Next}
use Rattle.dr_ulstate.specs.declared.phase.Next.TheVariants.{Opening, Asked}
use Rattle.dr_ulstate.specs.Phases.{state_of}
use Rattle.dr_ulstate.specs.Standing.{standing}
use Rattle.dr_ulstate.specs.Table.{state_number}
use Rattle.dr_pdu.specs.Feeding.{Feeding, fresh}
use Rattle.dr_pdu.specs.declared.pdu.AssociateRj.{AssociateRj}
use Rattle.dr_dimse.specs.declared.message.Awaited.TheVariants.{Requests, Nothing}
use Rattle.dr_dimse.specs.Taking.{Idle}
use Rattle.dr_site.specs.Parts.{Part}
use Rattle.dr_plan_sound.specs.declared.certificate.Hop.{Hop}
use Rattle.dr_base.specs.Syntaxes.{syntax_uid}
use Rattle.dr_base.specs.declared.syntax.Syntax.TheVariants.{Implicit}
use Rattle.dr_dimse.specs.declared.command.Command.TheVariants.{EchoRq}
use Rattle.dr_pdu.specs.declared.pdu.Pdu.TheVariants as pdu
use Rattle.dr_nego.specs.declared.agreed.Agreed.{Agreed}
use Rattle.dr_nego.specs.declared.fault.NegoFault.{NegoFault}
use Rattle.dr_nego.specs.declared.fault.NegoFault.TheVariants.{NoHop, Memory}
use Rattle.dr_nego.specs.Agreeing.{AssociateRq, context_for}
use Rattle.dr_base.specs.Standard.{verification}
use Rattle.dr_nego.specs.Proposing.{IsProposal, IsHopTo, echo_proposal}
use Rattle.dr_session.specs.declared.ends.Requested.TheVariants.{Echo}
use Rattle.dr_session.specs.declared.ends.Core.{Core}
use Rattle.dr_session.specs.declared.ends.Effect.{Effect}
use Rattle.dr_session.specs.declared.ends.Ended.{Ended}
use Rattle.dr_session.specs.declared.ends.Ended.TheVariants.{Rejected, Aborted, Released, Closed}
use Rattle.dr_session.specs.declared.ends.Heard.{Heard}
use Rattle.dr_session.specs.declared.ends.Heard.TheVariants as heard
use Rattle.dr_session.specs.declared.ends.Input.{Input}
use Rattle.dr_session.specs.declared.ends.Input.TheVariants as input
use Rattle.dr_session.specs.declared.ends.LinkAction.{LinkAction}
use Rattle.dr_session.specs.declared.ends.Marks.{Marks}
use Rattle.dr_session.specs.declared.ends.Moment.{Moment}
use Rattle.dr_session.specs.declared.ends.Over.{Over}
use Rattle.dr_session.specs.declared.ends.Over.TheVariants as over
use Rattle.dr_session.specs.declared.ends.Pending.{Pending}
use Rattle.dr_session.specs.Breaks.{HasActs}
use Rattle.dr_session.specs.Desks.{DeskCall, DeskAnswer}
use Rattle.dr_session.specs.Plays.{At, Reacts, Stops, PlaysBytes, BreaksBytes, at_moment}
use Rattle.dr_session.specs.Plays.{without_data}
use Rattle.dr_session.specs.Messages.{command_pdus}
use Rattle.dr_session.specs.Reactions.{assembling, effect, write, awaiting, id_after}
pub use Rattle.dr_session.specs.Reactions.{is_free}

-- an end with the bytes that it keeps; none of it is there once memory ended
pub record Terminal : Type 0 where
  pub ear : Feeding
  pub core : Option Core

abbrev pub unmarked : Marks
unmarked = record { rejection = None; aborted = false; released = false; desk_failed = false }

-- an acceptor whose transport connection was opened at that moment
abbrev pub accepting : Part → ℕ → Core
accepting site now = record {
  site = Some site;
  peer = [];
  phase = Opening (standing Sta2 false now);
  proposed = None;
  agreed = None;
  assembly = assembling Requests Idle;
  pending = None;
  last = 0;
  awaits = None;
  dry = false;
  marks = unmarked;
}

-- a requestor that has sent its request at that moment
abbrev pub requesting : Option Part → Text → AssociateRq → ℕ → Core
requesting site dest rq now = record {
  site = site;
  peer = dest;
  phase = Asked (standing Sta5 true now);
  proposed = Some rq;
  agreed = None;
  assembly = assembling Nothing Idle;
  pending = None;
  last = 0;
  awaits = Some now;
  dry = false;
  marks = unmarked;
}

-- it takes P-DATA-TF PDUs of at most that length
abbrev pub begins : ℕ → Core → Terminal
begins limit core = record { ear = fresh limit; core = Some core }

-- the state in which an end is; one without memory is gone
abbrev pub state_in : Option Core → State
state_in None = Sta1
state_in (Some c) = state_of c.phase

abbrev pub is_gone : State → Bool
is_gone Sta1 = true
is_gone s = false

abbrev pub IsEndOver : Option Core → Type 0
IsEndOver None = Unit {0}
IsEndOver (Some c) = is_gone (state_of c.phase) ≡ true

-- an end's core is taken out of it, unless the end is over
abbrev pub TakesCore : Terminal → Option Core → Terminal → Type 0
TakesCore old None new = IsEndOver old.core × (new ≡ old)
TakesCore old (Some c) new =
    (old.core ≡ Some c)
    × (is_gone (state_of c.phase) ≡ false)
    × (new ≡ record { ear = old.ear; core = None })

-- ---- calls

-- an input other than bytes
abbrev pub MeetsBy : {S : Type 0}
    → (S → DeskCall → DeskAnswer → S → Type 0)
    → Bool → Moment → Input → Core → Terminal → S
    → Result (List LinkAction) AllocError
    → Terminal → S → Type 0
MeetsBy step true at i c old s result new t = (result ≡ Ok []) × (new ≡ old) × (t ≡ s)
MeetsBy step false at i c old s (Ok acts) new t =
    (x : Effect)
    × Reacts step c (at_moment at i) s x t
    × (acts ≡ x.acts)
    × (new ≡ record { ear = old.ear; core = Some x.core })
MeetsBy step false at i c old s (Err e) new t =
    Stops step c (at_moment at i) s t × (new ≡ record { ear = old.ear; core = None })

-- an end that is over does nothing and calls nothing
abbrev pub MeetsIn : {S : Type 0}
    → (S → DeskCall → DeskAnswer → S → Type 0)
    → Option Core → Moment → Input → Terminal → S
    → Result (List LinkAction) AllocError
    → Terminal → S → Type 0
MeetsIn step None at i old s result new t = (result ≡ Ok []) × (new ≡ old) × (t ≡ s)
MeetsIn step (Some c) at i old s result new t =
    MeetsBy step (is_gone (state_of c.phase)) at i c old s result new t

abbrev pub Meets : {S : Type 0}
    → (S → DeskCall → DeskAnswer → S → Type 0)
    → Moment → Input → Terminal → S
    → Result (List LinkAction) AllocError
    → Terminal → S → Type 0
Meets step at i old s result new t = MeetsIn step old.core at i old s result new t

-- a piece of the bytes
abbrev pub HearsPiece : {S : Type 0}
    → (S → DeskCall → DeskAnswer → S → Type 0)
    → Bool → Moment → List ℕ → Core → Terminal → S
    → Result (List LinkAction) AllocError
    → Terminal → S → Type 0
HearsPiece step true at piece c old s result new t = (result ≡ Ok []) × (new ≡ old) × (t ≡ s)
HearsPiece step false at piece c old s (Ok acts) new t =
    (x : Effect)
    × PlaysBytes step at old.ear c piece s new.ear x t
    × (acts ≡ x.acts) × (new.core ≡ Some x.core)
HearsPiece step false at piece c old s (Err e) new t =
    BreaksBytes step at old.ear c piece s t × (new.core ≡ None)

abbrev pub HearsBytes : {S : Type 0}
    → (S → DeskCall → DeskAnswer → S → Type 0)
    → Option Core → Moment → List ℕ → Terminal → S
    → Result (List LinkAction) AllocError
    → Terminal → S → Type 0
HearsBytes step None at piece old s result new t = (result ≡ Ok []) × (new ≡ old) × (t ≡ s)
HearsBytes step (Some c) at piece old s result new t =
    HearsPiece step (is_gone (state_of c.phase)) at piece c old s result new t

abbrev pub IsMemory : Result (List LinkAction) AllocError → Type 0
IsMemory (Ok acts) = ⊥
IsMemory (Err e) = Unit {0}

-- The link has no memory for what came: the end is over, for want of memory. One that is over
-- already stays as it is.
abbrev pub LosesBy : Bool → Terminal → Result (List LinkAction) AllocError → Terminal → Type 0
LosesBy true old result new = (result ≡ Ok []) × (new ≡ old)
LosesBy false old result new = IsMemory result × (new ≡ record { ear = old.ear; core = None })

abbrev pub LosesIn : Option Core → Terminal
    → Result (List LinkAction) AllocError
    → Terminal → Type 0
LosesIn None old result new = (result ≡ Ok []) × (new ≡ old)
LosesIn (Some c) old result new = LosesBy (is_gone (state_of c.phase)) old result new

-- There is no room for more of the data set that is under way: its bytes are let go, and it is
-- heard to its end as one that is too large. An end that is over stays as it is.
abbrev pub CrowdsBy : Bool → Core → Terminal
    → Result (List LinkAction) AllocError
    → Terminal → Type 0
CrowdsBy true c old result new = (result ≡ Ok []) × (new ≡ old)
CrowdsBy false c old result new =
    (result ≡ Ok []) × (new ≡ record { ear = old.ear; core = Some (without_data c) })

abbrev pub CrowdsIn : Option Core → Terminal
    → Result (List LinkAction) AllocError
    → Terminal → Type 0
CrowdsIn None old result new = (result ≡ Ok []) × (new ≡ old)
CrowdsIn (Some c) old result new = CrowdsBy (is_gone (state_of c.phase)) c old result new

-- What silence for too long asks of an end in a state: that the local user aborts. Without an
-- association (states 2 and 13) there is nothing to abort, and only the timer is looked at.
abbrev pub idle_in : State → Input
idle_in Sta2 = input.Late
idle_in Sta13 = input.Late
idle_in s = input.AbortAsked

-- What comes over the link: bytes, its end, a late mark, silence for too long, that there is no
-- room for more of a data set, or that the link had no memory for it. A fault of the link is heard
-- as its end.
abbrev pub HearsOf : {S : Type 0}
    → (S → DeskCall → DeskAnswer → S → Type 0)
    → Heard → Moment → Terminal → S
    → Result (List LinkAction) AllocError
    → Terminal → S → Type 0
HearsOf step (heard.Bytes piece) at old s result new t =
    HearsBytes step old.core at piece old s result new t
HearsOf step heard.End at old s result new t = Meets step at input.Ended old s result new t
HearsOf step heard.Fault at old s result new t = Meets step at input.Ended old s result new t
HearsOf step heard.Late at old s result new t = Meets step at input.Late old s result new t
HearsOf step heard.Idle at old s result new t =
    Meets step at (idle_in (state_in old.core)) old s result new t
HearsOf step heard.Crowded at old s result new t = (t ≡ s) × CrowdsIn old.core old result new
HearsOf step heard.Memory at old s result new t = (t ≡ s) × LosesIn old.core old result new

-- ---- sending

abbrev pub is_free_in : Option Core → Bool
is_free_in None = false
is_free_in (Some c) = is_free c

-- a push found no row due
abbrev pub is_dry_in : Option Core → Bool
is_dry_in None = false
is_dry_in (Some c) = c.dry

-- an echo that awaits its response
abbrev pub echoing : ℕ → ℕ → Pending
echoing id context = record { id = id; context = context; asked = Echo; uid = [] }

-- a C-ECHO-RQ (PS3.7 9.1.5) in a context of Verification, whose response is awaited; nothing where
-- none was accepted
abbrev pub echoes_in : Option ℕ → Agreed → ℕ → Core → Effect
echoes_in (Some context) agreed now c = effect
    (write (command_pdus agreed.limit context (EchoRq (id_after c.last) verification false)) ∷ [])
    (awaiting (echoing (id_after c.last) context) now c)
echoes_in None agreed now c = effect [] c

abbrev pub echoes_by : Option Agreed → ℕ → Core → Effect
echoes_by (Some agreed) now c =
    echoes_in (context_for agreed verification (syntax_uid Implicit)) agreed now c
echoes_by None now c = effect [] c

-- An echo is asked of an end that may send; another does nothing. Want of memory ends it only where
-- something was to be written.
abbrev pub EchoesBy : Bool → ℕ → Core → Terminal
    → Result (List LinkAction) AllocError
    → Terminal → Type 0
EchoesBy false now c old result new = (result ≡ Ok []) × (new ≡ old)
EchoesBy true now c old (Ok acts) new =
    (acts ≡ (echoes_by c.agreed now c).acts)
    × (new ≡ record { ear = old.ear; core = Some (echoes_by c.agreed now c).core })
EchoesBy true now c old (Err e) new =
    HasActs (echoes_by c.agreed now c).acts × (new ≡ record { ear = old.ear; core = None })

abbrev pub EchoesIn : Option Core → ℕ → Terminal
    → Result (List LinkAction) AllocError
    → Terminal → Type 0
EchoesIn None now old result new = (result ≡ Ok []) × (new ≡ old)
EchoesIn (Some c) now old result new = EchoesBy (is_free c) now c old result new

-- an end's core is taken out of it, where it may send
abbrev pub TakesFree : Terminal → Option Core → Terminal → Type 0
TakesFree old None new = (is_free_in old.core ≡ false) × (new ≡ old)
TakesFree old (Some c) new =
    (old.core ≡ Some c) × (is_free c ≡ true) × (new ≡ record { ear = old.ear; core = None })

-- ---- how it begins

-- A requestor's end for a hop of the site, which asks for the association at once; or there is no
-- hop. Memory is wanted for a hop alone.
abbrev pub OpensTo : Part → Text → ℕ → Result (Terminal × List LinkAction) NegoFault → Type 0
OpensTo site dest now (Ok x) =
    ((hop : Hop) × IsHopTo site dest hop)
    × (rq : AssociateRq) × IsProposal site dest rq
    × (x.0 ≡ begins site.max_pdu (requesting (Some site) dest rq now))
    × (x.1 ≡ write (pdu.AssociateRq rq ∷ []) ∷ [])
OpensTo site dest now (Err NoHop) = (hop : Hop) → IsHopTo site dest hop → ⊥
OpensTo site dest now (Err Memory) = (hop : Hop) × IsHopTo site dest hop
OpensTo site dest now (Err why) = ⊥

-- a requestor's end for an echo between nodes of those names, which takes PDUs of at most 16,384
-- bytes
abbrev pub requesting_echo : Text → Text → ℕ → Terminal
requesting_echo caller called now =
    begins 16384 (requesting None called (echo_proposal caller called) now)

-- ---- how it ended

-- a rejection that was written or read counts first, then an abort, then the answer to a release
abbrev pub ended_of : Option AssociateRj → Bool → Bool → Ended
ended_of (Some rj) aborted released = Rejected rj
ended_of None true released = Aborted
ended_of None false true = Released
ended_of None false false = Closed

abbrev pub ended_by : Marks → Ended
ended_by m = ended_of m.rejection m.aborted m.released

abbrev pub over_in : Bool → Marks → Option Over
over_in false m = None
over_in true m = Some (if m.desk_failed then over.Desk else over.Ended (ended_by m))

-- how an end is over: for want of memory, by a store that failed, or as the association ended
abbrev pub over_of : Option Core → Option Over
over_of None = Some over.Memory
over_of (Some c) = over_in (is_gone (state_of c.phase)) c.marks
