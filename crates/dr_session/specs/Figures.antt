-- Worked figures of turns: each row of the state table (PS3.8 section 9.2.3) that a session can
-- meet, whatever the end is like.
use Rattle.std.specs.Prelude.{◌≡◌, ℕ, Bool, true, false, List, [], ◌∷◌, map, Option, Some, None, Ok}
use Rattle.std.specs.Prelude.{Err, option_map}
use Rattle.dr_ulstate.specs.declared.table.State.{State}
use Rattle.dr_ulstate.specs.declared.table.State.TheVariants.{Sta2, Sta5, Sta6, Sta7, Sta11, Sta13}
use Rattle.dr_ulstate.specs.Table.{state_number}
use Rattle.dr_ulstate.specs.Phases.{phase_of, state_of}
use Rattle.dr_ulstate.specs.Standing.{standing}
use Rattle.dr_pdu.specs.declared.pdu.Abort.{Abort}
use Rattle.dr_pdu.specs.declared.pdu.AssociateRj.{AssociateRj}
use Rattle.dr_pdu.specs.declared.pdu.Pdv.{Pdv}
use Rattle.dr_base.specs.Texts.{Text}
use Rattle.dr_dimse.specs.declared.command.Command.{Command}
use Rattle.dr_dimse.specs.declared.command.Command.TheVariants.{StoreRsp, EchoRsp, Other}
use Rattle.dr_ledger.specs.declared.content.NextRow.TheVariants.{Unreadable}
use Rattle.dr_ledger.specs.declared.fault.LedgerFault.TheVariants as ledger
use Rattle.dr_ledger.specs.declared.item.Outcome.TheVariants.{Broken, Status}
use Rattle.dr_ledger.specs.declared.item.Outcome.TheVariants as outcome
use Rattle.dr_nego.specs.declared.agreed.Agreed.{Agreed}
use Rattle.dr_nego.specs.declared.fault.NegoFault.TheVariants.{StrangeId}
use Rattle.dr_nego.specs.Agreeing.{AssociateRq, AssociateAc}
use Rattle.dr_base.specs.Standard.{application_context, image}
use Rattle.dr_nego.specs.Figures.{archive_site, gate, context, request, proposal}
use Rattle.dr_plan_sound.specs.Samples.{archive}
use Rattle.dr_nego.specs.Answering.{acceptance_of}
use Rattle.dr_base.specs.declared.syntax.Syntax.TheVariants.{Explicit}
use Rattle.dr_pdu.specs.declared.pdu.Pdu.TheVariants as pdu
use Rattle.dr_session.specs.declared.ends.Requested.{Requested}
use Rattle.dr_session.specs.declared.ends.Requested.TheVariants.{Echo, Store}
use Rattle.dr_session.specs.declared.ends.Core.{Core}
use Rattle.dr_session.specs.declared.ends.Ended.{Ended}
use Rattle.dr_session.specs.declared.ends.Ended.TheVariants.{Rejected, Aborted, Released, Closed}
use Rattle.dr_session.specs.declared.ends.Input.TheVariants as input
use Rattle.dr_session.specs.declared.ends.LinkAction.{LinkAction}
use Rattle.dr_session.specs.declared.ends.LinkAction.TheVariants.{Write, Close}
use Rattle.dr_session.specs.declared.ends.Moment.{Moment}
use Rattle.dr_session.specs.declared.ends.Over.{Over}
use Rattle.dr_session.specs.declared.ends.Over.TheVariants as ends_as
use Rattle.dr_session.specs.declared.ends.Pending.{Pending}
use Rattle.dr_session.specs.declared.ends.Told.{Told}
use Rattle.dr_session.specs.declared.ends.Told.TheVariants as told
use Rattle.dr_session.specs.Desks.{DeskAnswer, DeskCall, Next, Due, Settle, Settling}
use Rattle.dr_session.specs.Ends.{unmarked, over_in, idle_in}
use Rattle.dr_session.specs.Reactions.{Reaction, due, turn, rj, write}
use Rattle.dr_session.specs.Turns.{Ends, Asks, Fails}

-- ---- where an end stands

-- the acceptor's or the requestor's end in a state, entered at moment 0; nothing pends, and nothing
-- was marked
pub record EndInState : Type 0 where
  pub requestor : Bool
  pub state : State

abbrev pub acceptor : State → EndInState
acceptor state = record { requestor = false; state = state }

abbrev pub requestor : State → EndInState
requestor state = record { requestor = true; state = state }

abbrev pub placed : EndInState → Core → Core
placed p c = record c {
  phase = phase_of p.state (standing p.state p.requestor 0);
  pending = None;
  awaits = None;
  marks = unmarked;
}

-- where data goes both ways, or the requestor's release is under way
abbrev pub established : List EndInState
established = acceptor Sta6 ∷ requestor Sta6 ∷ []

abbrev pub releasing : List EndInState
releasing = requestor Sta7 ∷ requestor Sta11 ∷ []

-- from the acceptance to the end of the release
abbrev pub associated : List EndInState
associated = acceptor Sta6 ∷ requestor Sta6 ∷ requestor Sta7 ∷ requestor Sta11 ∷ []

abbrev pub closing : List EndInState
closing = acceptor Sta13 ∷ requestor Sta13 ∷ []

-- ---- what a turn shows

-- without a call: the number of the state that follows, what is done on the link, how the end is
-- over if it is gone then, and since when it awaits an answer
pub record Shown : Type 0 where
  pub state : ℕ
  pub acts : List LinkAction
  pub so_far : Option Over
  pub awaits : Option ℕ

abbrev pub shows : Reaction → Option Shown
shows (Ends x) = Some
    (record {
      state = state_number (state_of x.core.phase);
      acts = x.acts;
      so_far = over_in true x.core.marks;
      awaits = x.core.awaits;
    })
shows (Asks call follow) = None
shows Fails = None

abbrev pub shown : ℕ → List LinkAction → Over → Option ℕ → Option Shown
shown state acts over awaits =
    Some (record { state = state; acts = acts; so_far = Some over; awaits = awaits })

-- the end that follows, without a call
abbrev pub end_after : Reaction → Option Core
end_after (Ends x) = Some x.core
end_after (Asks call follow) = None
end_after Fails = None

-- the first call
abbrev pub calls : Reaction → Option DeskCall
calls (Asks call follow) = Some call
calls turn = None

-- at each of these places, where no answer is awaited, before it and behind it
abbrev pub Does : Core → Moment → List EndInState → Told → ℕ → List LinkAction → Ended → Type 0
Does c at places told state acts ended =
    map (λ p. shows (turn at (placed p c) told)) places
    ≡ map (λ p. shown state acts (ends_as.Ended ended) None) places

abbrev pub sends : List ℕ → List LinkAction
sends bytes = Write bytes ∷ []

-- an A-ABORT of that source and reason (PS3.8 section 9.3.8)
abbrev pub abort : ℕ → ℕ → List LinkAction
abort source reason = sends (7 ∷ 0 ∷ 0 ∷ 0 ∷ 0 ∷ 4 ∷ 0 ∷ 0 ∷ source ∷ reason ∷ [])

abbrev pub release_request : List LinkAction
release_request = sends (5 ∷ 0 ∷ 0 ∷ 0 ∷ 0 ∷ 4 ∷ 0 ∷ 0 ∷ 0 ∷ 0 ∷ [])

abbrev pub release_answer : List LinkAction
release_answer = sends (6 ∷ 0 ∷ 0 ∷ 0 ∷ 0 ∷ 4 ∷ 0 ∷ 0 ∷ 0 ∷ 0 ∷ [])

abbrev pub rejection : ℕ → ℕ → ℕ → List LinkAction
rejection result source reason = sends (3 ∷ 0 ∷ 0 ∷ 0 ∷ 0 ∷ 4 ∷ 0 ∷ result ∷ source ∷ reason ∷ [])

abbrev pub closes : List LinkAction
closes = Close ∷ []

abbrev pub moment : ℕ → ℕ → Moment
moment now others = record { now = now; others = others }

-- ---- event 3: an A-ASSOCIATE-AC

pub record Acceptances (c : Core) (at : Moment) (ac : AssociateAc) (agreed : Agreed) : Type 0 where
  pub before :
      Does c at (acceptor Sta2 ∷ []) (told.Plain (input.Acceptance ac)) 13 (abort 0 0) Aborted
  pub taken : Does c at (requestor Sta5 ∷ []) (told.Agreement (Ok agreed)) 6 [] Closed
  pub strange :
      Does c at (requestor Sta5 ∷ []) (told.Agreement (Err StrangeId)) 13 (abort 0 0) Aborted
  pub again : Does c at associated (told.Plain (input.Acceptance ac)) 13 (abort 2 2) Aborted
  pub late : Does c at closing (told.Plain (input.Acceptance ac)) 13 [] Closed

-- ---- event 4: an A-ASSOCIATE-RJ

pub record Rejections (c : Core) (at : Moment) (rj : AssociateRj) : Type 0 where
  pub before :
      Does c at (acceptor Sta2 ∷ []) (told.Plain (input.Rejection rj)) 13 (abort 0 0) Aborted
  pub taken : calls (turn at (placed (requestor Sta5) c) (told.Plain (input.Rejection rj)))
      ≡ Some (Due c.peer at.now)
  pub again : Does c at associated (told.Plain (input.Rejection rj)) 13 (abort 2 2) Aborted
  pub late : Does c at closing (told.Plain (input.Rejection rj)) 13 [] Closed

-- ---- events 6 to 8: an A-ASSOCIATE-RQ and its answer, at the archive

abbrev pub at_archive : Core → Core
at_archive c = record c { site = Some archive_site }

pub record Requests (c : Core) (now : ℕ) (rq : AssociateRq) : Type 0 where
  pub accepted : Does (at_archive c) (moment now 0) (acceptor Sta2 ∷ [])
      (told.Plain (input.Request proposal)) 6
      (write (pdu.AssociateAc (acceptance_of proposal archive_site) ∷ []) ∷ []) Closed
  -- its peer is the one that calls
  pub caller : option_map (λ (after : Core). after.peer)
      (end_after
      (turn (moment now 0) (placed (acceptor Sta2) (at_archive c))
      (told.Plain (input.Request proposal))))
      ≡ Some gate
  -- the 256 associations of a node are open: the service provider rejects
  pub full : Does (at_archive c) (moment now 256) (acceptor Sta2 ∷ [])
      (told.Plain (input.Request proposal)) 13 (rejection 2 3 2) (Rejected (rj 2 3 2))
  -- another title was called: the user rejects
  pub misdirected : Does (at_archive c) (moment now 0) (acceptor Sta2 ∷ [])
      (told.Plain
      (input.Request
      (request gate gate application_context 1 (context 1 image (Explicit ∷ []) ∷ []) 16384))) 13
      (rejection 1 1 7) (Rejected (rj 1 1 7))
  pub too_small : Does (at_archive c) (moment now 0) (acceptor Sta2 ∷ [])
      (told.Plain
      (input.Request
      (request archive gate application_context 1 (context 1 image (Explicit ∷ []) ∷ []) 7))) 13
      (abort 0 0) Aborted
  pub again : Does c (moment now 0) (requestor Sta5 ∷ associated) (told.Plain (input.Request rq)) 13
      (abort 2 2) Aborted
  pub late : Does c (moment now 0) closing (told.Plain (input.Request rq)) 13 (abort 2 0) Aborted

-- ---- events 9 and 10: data

pub record Values (c : Core) (at : Moment) (p : Pdv) : Type 0 where
  pub before : Does c at (acceptor Sta2 ∷ []) (told.Plain (input.Value p)) 13 (abort 0 0) Aborted
  pub early : Does c at (requestor Sta5 ∷ requestor Sta11 ∷ []) (told.Plain (input.Value p)) 13
      (abort 2 2) Aborted
  pub inner : Does c at established told.Quiet 6 [] Closed
  pub none : Does c at established (told.Plain input.NoValue) 6 [] Closed
  pub strange : Does c at (requestor Sta7 ∷ established) told.Strange 13 (abort 2 6) Aborted
  pub misplaced : Does c at (requestor Sta7 ∷ established) told.Fault 13 (abort 0 0) Aborted
  pub leaving : Does c at (requestor Sta7 ∷ []) told.Quiet 7 [] Closed
  pub late : Does c at closing (told.Plain (input.Value p)) 13 [] Closed

pub record Pushes (c : Core) (at : Moment) : Type 0 where
  pub due : calls (turn at (placed (requestor Sta6) c) (told.Plain input.PushAsked))
      ≡ Some (Next c.peer at.now)
  pub accepting : Does c at (acceptor Sta6 ∷ []) (told.Plain input.PushAsked) 6 [] Closed
  pub leaving : Does c at (requestor Sta7 ∷ []) (told.Plain input.PushAsked) 7 [] Closed
  pub late : Does c at closing (told.Plain input.PushAsked) 13 [] Closed

-- ---- a row that can't be read

-- what follows on an answer
abbrev pub on_answer : Reaction → DeskAnswer → Reaction
on_answer (Asks call follow) reply = follow reply
on_answer (Ends x) reply = Ends x
on_answer Fails reply = Fails

-- The first row that is due can't be read: it is settled so, nothing of it is written, and the end
-- aborts, also where the row isn't waiting any more or the store fails.
pub record Passings (c : Core) (at : Moment) (uid : Text) : Type 0 where
  pub settles :
      calls (due at (placed (requestor Sta6) c) (Ok (Some (Unreadable uid))))
      ≡ Some (Settle uid c.peer outcome.Unreadable at.now)
  pub leaves : shows
      (on_answer (due at (placed (requestor Sta6) c) (Ok (Some (Unreadable uid))))
      (Settling (Ok tt)))
      ≡ shown 13 (abort 0 0) (ends_as.Ended Aborted) None
  pub settled_before : shows
      (on_answer (due at (placed (requestor Sta6) c) (Ok (Some (Unreadable uid))))
      (Settling (Err ledger.NotWaiting)))
      ≡ shown 13 (abort 0 0) (ends_as.Ended Aborted) None
  pub store_fails : shows
      (on_answer (due at (placed (requestor Sta6) c) (Ok (Some (Unreadable uid))))
      (Settling (Err ledger.Store)))
      ≡ shown 13 (abort 0 0) ends_as.Desk None

-- ---- events 11 to 14: the release

pub record Releases (c : Core) (at : Moment) : Type 0 where
  -- the answer is awaited from then on
  pub asks : shows (turn at (placed (requestor Sta6) c) (told.Plain input.ReleaseAsked))
      ≡ shown 7 release_request (ends_as.Ended Closed) (Some at.now)
  pub only : Does c at (acceptor Sta6 ∷ []) (told.Plain input.ReleaseAsked) 6 [] Closed
  pub before : Does c at (acceptor Sta2 ∷ []) (told.Plain input.ReleaseRq) 13 (abort 0 0) Aborted
  pub early : Does c at (requestor Sta5 ∷ requestor Sta11 ∷ []) (told.Plain input.ReleaseRq) 13
      (abort 2 2) Aborted
  pub answers : Does c at established (told.Plain input.ReleaseRq) 13 release_answer Released
  pub collides :
      Does c at (requestor Sta7 ∷ []) (told.Plain input.ReleaseRq) 11 release_answer Released
  pub late : Does c at closing (told.Plain input.ReleaseRq) 13 [] Closed

pub record ReleaseAnswers (c : Core) (at : Moment) : Type 0 where
  pub before : Does c at (acceptor Sta2 ∷ []) (told.Plain input.ReleaseRp) 13 (abort 0 0) Aborted
  pub early :
      Does c at (requestor Sta5 ∷ established) (told.Plain input.ReleaseRp) 13 (abort 2 2) Aborted
  pub closes : Does c at releasing (told.Plain input.ReleaseRp) 1 closes Released
  pub late : Does c at closing (told.Plain input.ReleaseRp) 13 [] Closed

-- ---- events 15 and 16: aborts

abbrev pub pended : Pending → EndInState → Core → Core
pended p place c = record (placed place c) { pending = Some p }

pub record Aborts (c : Core) (at : Moment) (a : Abort) (p : Pending) : Type 0 where
  pub asked :
      Does c at (requestor Sta5 ∷ associated) (told.Plain input.AbortAsked) 13 (abort 0 0) Aborted
  -- nothing is there to be aborted
  pub fresh : Does c at (acceptor Sta2 ∷ []) (told.Plain input.AbortAsked) 2 [] Closed
  pub late : Does c at closing (told.Plain input.AbortAsked) 13 [] Closed
  pub heard : Does c at
      (acceptor Sta2 ∷ requestor Sta5 ∷ acceptor Sta13 ∷ requestor Sta13 ∷ associated)
      (told.Plain (input.Abort a)) 1 closes Aborted
  -- what pends is settled as broken
  pub breaks : calls (turn at (pended p (requestor Sta6) c) (told.Plain (input.Abort a)))
      ≡ Some (Settle p.uid c.peer Broken at.now)

-- ---- event 10: a response, at a requestor

-- a request that awaits its response: its message id is 7, its context 3
abbrev pub asked_for : Requested → Text → Pending
asked_for of uid = record { id = 7; context = 3; asked = of; uid = uid }

-- what the end asks its desk for where this is pending and it hears that message
abbrev pub hears_then : Core → Moment → Pending → ℕ → Command → Option DeskCall
hears_then c at p context command =
    calls (turn at (pended p (requestor Sta6) c) (told.Whole context [] command))

-- The response of a store settles its row by the status. One in another context, that of an echo
-- and any other are out of place: the end aborts, and the row is to be tried again.
pub record Responses (c : Core) (at : Moment) (class uid : Text) : Type 0 where
  pub stored : hears_then c at (asked_for Store uid) 3 (StoreRsp 7 0xA700 class uid false)
      ≡ Some (Settle uid c.peer (Status 0xA700) at.now)
  pub elsewhere : hears_then c at (asked_for Store uid) 5 (StoreRsp 7 0 class uid false)
      ≡ Some (Settle uid c.peer Broken at.now)
  pub an_echo : hears_then c at (asked_for Store uid) 3 (EchoRsp 7 0 class false)
      ≡ Some (Settle uid c.peer Broken at.now)
  pub another : hears_then c at (asked_for Store uid) 3 (Other 0x8020 (Some 7) (Some 0) false)
      ≡ Some (Settle uid c.peer Broken at.now)
  pub echoed : hears_then c at (asked_for Echo []) 3 (EchoRsp 7 0 class false)
      ≡ Some (Settle [] c.peer (Status 0) at.now)
  pub no_echo : hears_then c at (asked_for Echo []) 3 (StoreRsp 7 0 class uid false)
      ≡ Some (Settle [] c.peer Broken at.now)

-- ---- events 17 and 18: the end of the connection, and of the timer

pub record Endings (c : Core) (at : Moment) (p : Pending) : Type 0 where
  pub gone : Does c at
      (acceptor Sta2 ∷ requestor Sta5 ∷ acceptor Sta13 ∷ requestor Sta13 ∷ associated)
      (told.Plain input.Ended) 1 [] Closed
  pub breaks : calls (turn at (pended p (requestor Sta6) c) (told.Plain input.Ended))
      ≡ Some (Settle p.uid c.peer Broken at.now)

-- a requestor that has awaited an answer since moment 0
abbrev pub awaited : EndInState → Core → Core
awaited p c = record (placed p c) { awaits = Some 0 }

abbrev pub Waits : Core → ℕ → List EndInState → ℕ → List LinkAction → Ended → Option ℕ → Type 0
Waits c now places state acts ended awaits =
    map (λ p. shows (turn (moment now 0) (awaited p c) (told.Plain input.Late))) places
    ≡ map (λ p. shown state acts (ends_as.Ended ended) awaits) places

pub record LateMarks (c : Core) : Type 0 where
  pub fresh : Does c (moment 29999 0) (acceptor Sta2 ∷ []) (told.Plain input.Late) 2 [] Closed
  pub waiting : Does c (moment 29999 0) closing (told.Plain input.Late) 13 [] Closed
  pub expired :
      Does c (moment 30000 0) (acceptor Sta2 ∷ closing) (told.Plain input.Late) 1 closes Closed
  -- an end that awaits nothing stays
  pub idle : Does c (moment 60000 0) established (told.Plain input.Late) 6 [] Closed
  pub patient : Waits c 59999 (requestor Sta5 ∷ []) 5 [] Closed (Some 0)
  pub impatient : Waits c 60000
      (requestor Sta5 ∷ requestor Sta6 ∷ requestor Sta7 ∷ requestor Sta11 ∷ []) 13 (abort 0 0)
      Aborted None
  -- an acceptor awaits no answer
  pub accepting : Waits c 60000 (acceptor Sta6 ∷ []) 6 [] Closed (Some 0)

-- ---- silence for too long (event 15, or the timer's)

-- what silence does at each of the places, which are in one state
abbrev pub IsSilenced : Core → ℕ → State → List EndInState → ℕ → List LinkAction → Ended → Type 0
IsSilenced c now at places state acts ended =
    Does c (moment now 0) places (told.Plain (idle_in at)) state acts ended

pub record Silences (c : Core) : Type 0 where
  pub agreed : IsSilenced c 0 Sta6 established 13 (abort 0 0) Aborted
  pub asking : IsSilenced c 0 Sta5 (requestor Sta5 ∷ []) 13 (abort 0 0) Aborted
  -- no association is there yet, and none any more: only the timer ends it
  pub fresh : IsSilenced c 29999 Sta2 (acceptor Sta2 ∷ []) 2 [] Closed
  pub over : IsSilenced c 29999 Sta13 closing 13 [] Closed
  pub expired : IsSilenced c 30000 Sta2 (acceptor Sta2 ∷ []) 1 closes Closed

-- ---- event 19: what is no PDU

pub record NoPdus (c : Core) (at : Moment) : Type 0 where
  pub before : Does c at (acceptor Sta2 ∷ []) (told.Plain input.Unknown) 13 (abort 0 0) Aborted
  pub unknown :
      Does c at (requestor Sta5 ∷ associated) (told.Plain input.Unknown) 13 (abort 2 1) Aborted
  pub invalid :
      Does c at (requestor Sta5 ∷ associated) (told.Plain input.Invalid) 13 (abort 2 6) Aborted
  pub late : Does c at closing (told.Plain input.Unknown) 13 (abort 2 0) Aborted
