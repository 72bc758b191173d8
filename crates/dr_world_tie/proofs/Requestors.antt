-- What a requestor does with an input, whoever wrote it.
use Rattle.std.proofs.Common.{◌≡◌, ◌≢◌, ℕ, ◌≤◌, Bool, true, false, List, [], ◌∷◌, Option, Some}
use Rattle.std.proofs.Common.{None, Result, Ok, Err, refl, sym, ap, subst, ◌∙◌, inl, inr, ◌⊎◌}
use Rattle.std.proofs.Common.{arith}
use Rattle.std.specs.Prelude.{◌&&◌, ◌+◌, nat_le, not, is_some, if◌then◌else◌}
use Rattle.std.specs.List.{AllByRecursion}
use Rattle.std.specs.Option.{option_map_or}
use Rattle.std.proofs.lemmas.List.{append-nil}
use Rattle.dr_base.specs.Texts.{Text}
use Rattle.dr_plan_model.specs.Networks.{Network}
use Rattle.dr_ulstate.specs.declared.table.Action.TheVariants.{Ae3, Ae4, Aa1, Aa3, Aa4, Aa8, Ar1}
use Rattle.dr_ulstate.specs.declared.table.Action.TheVariants.{Ar2, Dt2}
use Rattle.dr_ulstate.specs.declared.table.Event.{Event as UpperEvent}
use Rattle.dr_ulstate.specs.declared.table.Event.TheVariants.{AssociateAcPdu, AssociateRjPdu}
use Rattle.dr_ulstate.specs.declared.table.Event.TheVariants.{AssociateRqPdu, DataPdu}
use Rattle.dr_ulstate.specs.declared.table.Event.TheVariants.{ReleaseRequest, ReleaseRqPdu}
use Rattle.dr_ulstate.specs.declared.table.Event.TheVariants.{ReleaseRpPdu, ReleaseResponse}
use Rattle.dr_ulstate.specs.declared.table.Event.TheVariants.{AbortRequest, AbortPdu}
use Rattle.dr_ulstate.specs.declared.table.Event.TheVariants.{TransportClosed, ArtimExpired}
use Rattle.dr_ulstate.specs.declared.table.Event.TheVariants.{InvalidPdu}
use Rattle.dr_ulstate.specs.declared.table.State.{State}
use Rattle.dr_ulstate.specs.declared.table.State.TheVariants.{Sta1, Sta5, Sta6, Sta7, Sta8, Sta13}
use Rattle.dr_ulstate.specs.Table.{cell, action_of}
use Rattle.dr_ulstate.specs.Standing.{Standing, moved, runs_artim, has_expired}
use Rattle.dr_ulstate.specs.Phases.{standing_of, in_its_phase, next_expired, may_send}
use Rattle.dr_pdu.specs.declared.pdu.Pdu.{Pdu}
use Rattle.dr_pdu.specs.declared.pdu.Pdu.TheVariants as pdu
use Rattle.dr_pdu.specs.declared.pdu.Pdv.{Pdv}
use Rattle.dr_pdu.specs.declared.pdu.AssociateRj.{AssociateRj}
use Rattle.dr_pdu.proofs.WrittenLemmas.{others_fit}
use Rattle.dr_dimse.specs.declared.command.Command.{Command}
use Rattle.dr_dimse.specs.declared.command.Command.TheVariants.{StoreRq, StoreRsp, EchoRq, EchoRsp}
use Rattle.dr_dimse.specs.declared.command.Command.TheVariants.{Other}
use Rattle.dr_dimse.specs.declared.message.Awaited.{Awaited}
use Rattle.dr_dimse.specs.declared.message.Awaited.TheVariants.{AnswerTo, Nothing as NothingAwaited}
use Rattle.dr_dimse.specs.declared.message.Awaited.TheVariants.{Requests}
use Rattle.dr_dimse.specs.declared.message.Body.{Body}
use Rattle.dr_dimse.specs.declared.message.Message.{Message}
use Rattle.dr_dimse.specs.declared.fault.DimseFault.{DimseFault}
use Rattle.dr_dimse.specs.declared.fault.DimseFault.TheVariants as dimse
use Rattle.dr_dimse.specs.Taking.{MessageStage as Taken, Idle, InCommand, InData, TakesValue, IsAwaited, data_of}
use Rattle.dr_ledger.specs.declared.fault.LedgerFault.TheVariants as fault
use Rattle.dr_ledger.specs.declared.item.Instance.{Instance}
use Rattle.dr_ledger.specs.declared.item.Outcome.TheVariants.{Status, Broken}
use Rattle.dr_ledger.specs.Replies.{IsNext, IsDue}
use Rattle.dr_nego.specs.Fragments.{spellings}
use Rattle.dr_nego.specs.declared.agreed.Agreed.{Agreed}
use Rattle.dr_nego.specs.declared.agreed.Pair.{Pair}
use Rattle.dr_nego.specs.declared.fault.NegoFault.{NegoFault}
use Rattle.dr_nego.specs.declared.fault.NegoFault.TheVariants as nego
use Rattle.dr_nego.specs.Agreeing.{AssociateRq, AssociateAc, Concludes, pair_at}
use Rattle.dr_session.specs.declared.ends.Core.{Core}
use Rattle.dr_session.specs.declared.ends.Effect.{Effect}
use Rattle.dr_session.specs.declared.ends.Input.{Input}
use Rattle.dr_session.specs.declared.ends.Input.TheVariants as input
use Rattle.dr_session.specs.declared.ends.LinkAction.{LinkAction}
use Rattle.dr_session.specs.declared.ends.LinkAction.TheVariants.{Close}
use Rattle.dr_session.specs.declared.ends.Moment.{Moment}
use Rattle.dr_session.specs.declared.ends.Pending.{Pending}
use Rattle.dr_session.specs.declared.ends.Told.{Told}
use Rattle.dr_session.specs.declared.ends.Told.TheVariants.{Plain, Quiet, Fault, Strange, Store}
use Rattle.dr_session.specs.declared.ends.Told.TheVariants.{Whole, Agreement}
use Rattle.dr_session.specs.Desks.{DeskCall, DeskAnswer, Settle, Arrival, Upcoming, First, Settling}
use Rattle.dr_session.specs.Desks.{Due}
use Rattle.dr_session.specs.Reactions.{turn, event_of, is_taken, is_requestor, is_idle}
use Rattle.dr_session.specs.Reactions.{is_impatient, has_waited, stepped_by, leaves_by, left}
use Rattle.dr_session.specs.Reactions.{aborted, released, rejected, desk_failed, settled_with}
use Rattle.dr_session.specs.Reactions.{effect, write, abort_pdu, reason_of, replied, settles_by}
use Rattle.dr_session.specs.Reactions.{status_for, requested, refused, row, settling, agrees}
use Rattle.dr_session.specs.Reactions.{storing}
use Rattle.dr_session.specs.Telling.{Looks, TellsAcceptance, TellsValue, TellsIn, Says, SaysOf}
use Rattle.dr_session.specs.Turns.{Turns, Ends}
use Rattle.dr_session.specs.Plays.{Reacts, at_moment, with_stage}
use Rattle.dr_world_model.specs.Calls.{Answer}
use Rattle.dr_world_tie.specs.Desks.{Desk, LedgerStep}
use Rattle.dr_world_tie.specs.Channels.{IsAt, IsOff, IsControl, bytes_of, message}
use Rattle.dr_world_tie.proofs.Values.{told_by}
use Rattle.std.proofs.lemmas.Bool.{eq-eqb}
use Rattle.dr_world_tie.specs.Ties.{StaysOff}
use Rattle.dr_world_tie.specs.ForeignCalls.{GoesOnAwaited}
use Rattle.dr_world_tie.proofs.CallerLeaving.{HasPendingOf, IsLeft, Does, left_of}
use Rattle.dr_world_tie.proofs.Controls.{close_fits}
use Rattle.dr_world_tie.proofs.Leaving.{AreFit, abort_fits}
use Rattle.dr_world_tie.proofs.Responses.{GoesOn, by_answer}
use Rattle.dr_world_tie.proofs.Acceptors.{state_is, side_is, no_event, no_cell, acts_as, as_plain}

-- ---- what is under way

fine_next : (awaited : Awaited) (stage : Taken) (p : Pdv)
    (answer : Result (Option Message) DimseFault) (next : Taken)
    → GoesOnAwaited awaited stage
    → TakesValue awaited stage p answer next
    → GoesOnAwaited awaited next
fine_next awaited (InData id c b) p (Ok None) next fine (inl (place, want, more)) =
    subst (λ (z : Taken). GoesOnAwaited awaited z) (sym more.1) fine
fine_next awaited (InData id c b) p (Ok (Some m)) next fine (inl (place, want, more)) =
    subst (λ (z : Taken). GoesOnAwaited awaited z) (sym more.2) tt
fine_next awaited Idle p (Ok m) next fine (inl (place, want, more)) = absurd more
fine_next awaited (InCommand id text) p (Ok m) next fine (inl (place, want, more)) = absurd more
fine_next awaited stage p (Ok m) next fine (inr (inl (short, inner, none, is))) =
    subst (λ (z : Taken). GoesOnAwaited awaited z) (sym is) tt
fine_next awaited stage p (Ok None) next fine (inr (inr (text, c, ends, is, wanted, begins))) =
    subst (λ (z : Taken). GoesOnAwaited awaited z) (sym begins.1) wanted
fine_next awaited stage p (Ok (Some m)) next fine (inr (inr (text, c, ends, is, wanted, begins))) =
    subst (λ (z : Taken). GoesOnAwaited awaited z) (sym begins.2) tt
fine_next awaited stage p (Err dimse.MixedContext) next fine h =
    subst (λ (z : Taken). GoesOnAwaited awaited z) (sym h.0) fine
fine_next awaited stage p (Err dimse.OutOfPlace) next fine h =
    subst (λ (z : Taken). GoesOnAwaited awaited z) (sym h.0) fine
fine_next awaited stage p (Err dimse.TooLong) next fine h =
    subst (λ (z : Taken). GoesOnAwaited awaited z) (sym h.0) fine
fine_next awaited stage p (Err dimse.BadCommand) next fine h =
    subst (λ (z : Taken). GoesOnAwaited awaited z) (sym h.0) fine
fine_next awaited stage p (Err dimse.Memory) next fine h =
    subst (λ (z : Taken). GoesOnAwaited awaited z) (sym h) fine

-- a whole message is one that is awaited, and nothing is under way behind it
ended : (awaited : Awaited) (stage : Taken) (p : Pdv) (m : Message) (next : Taken)
    → GoesOnAwaited awaited stage
    → TakesValue awaited stage p (Ok (Some m)) next
    → (next ≡ Idle) × IsAwaited awaited m.command
ended awaited (InData id c b) p m next fine (inl (place, want, more)) = (
  more.2,
  subst
      (λ (z : Command). IsAwaited awaited z) (sym (ap (λ (n : Message). n.command) more.1)) fine,
)
ended awaited Idle p m next fine (inl (place, want, more)) = absurd more
ended awaited (InCommand id text) p m next fine (inl (place, want, more)) = absurd more
ended awaited stage p m next fine (inr (inl (short, inner, none, is))) = absurd (cc none)
ended awaited stage p m next fine (inr (inr (text, c, ends, is, wanted, begins))) = (
  begins.2,
  subst
      (λ (z : Command). IsAwaited awaited z) (sym (ap (λ (n : Message). n.command) begins.1))
      wanted,
)

-- a requestor awaits no request
abbrev pub AwaitsNoRequest : Awaited → Type 0
AwaitsNoRequest Requests = ⊥
AwaitsNoRequest (AnswerTo id) = Unit {0}
AwaitsNoRequest NothingAwaited = Unit {0}

no_request : (awaited : Awaited) (id : ℕ) (class instance : Text)
    → AwaitsNoRequest awaited
    → IsAwaited awaited (StoreRq id class instance)
    → ⊥
no_request Requests id class instance none h = none
no_request (AnswerTo n) id class instance none h =
    (let few : 0x8000 ≤ 1 = h.0 in omega (arith, few))
no_request NothingAwaited id class instance none h = h

-- what a value is told as at a requestor
abbrev IsOfAnswer : Taken → Told → Type 0
IsOfAnswer stage Quiet = Unit {0}
IsOfAnswer stage Fault = Unit {0}
IsOfAnswer stage Strange = Unit {0}
IsOfAnswer stage (Whole context of command) = stage ≡ Idle
IsOfAnswer stage (Store context of id class instance found) = ⊥
IsOfAnswer stage (Plain i) = ⊥
IsOfAnswer stage (Agreement answer) = ⊥

module _ (c : Core) (p : Pdv) (told : Told) (stage : Taken)
    (none : AwaitsNoRequest c.assembly.awaited)
    (fine : GoesOnAwaited c.assembly.awaited c.assembly.stage) where
  abbrev Out : Type 0
  Out = IsOfAnswer stage told × GoesOnAwaited c.assembly.awaited stage

  as_told : (t : Told) → told ≡ t → IsOfAnswer stage t → IsOfAnswer stage told
  as_told t e h = subst (λ (y : Told). IsOfAnswer stage y) (sym e) h

  said : (x : Pair) (id : ℕ) (b : Option Body) (command : Command)
      → IsAwaited c.assembly.awaited command
      → stage ≡ Idle
      → SaysOf x id b command told
      → IsOfAnswer stage told
  said x id (Some b) (StoreRq n class instance) wanted idle h =
      absurd (no_request c.assembly.awaited n class instance none wanted)
  said x id None (StoreRq n class instance) wanted idle h =
      absurd (no_request c.assembly.awaited n class instance none wanted)
  said x id (Some b) (StoreRsp n status class instance has_data) wanted idle h =
      as_told (Whole id x.class (StoreRsp n status class instance has_data)) h idle
  said x id None (StoreRsp n status class instance has_data) wanted idle h =
      as_told (Whole id x.class (StoreRsp n status class instance has_data)) h idle
  said x id (Some b) (EchoRq n class has_data) wanted idle h =
      as_told (Whole id x.class (EchoRq n class has_data)) h idle
  said x id None (EchoRq n class has_data) wanted idle h =
      as_told (Whole id x.class (EchoRq n class has_data)) h idle
  said x id (Some b) (EchoRsp n status class has_data) wanted idle h =
      as_told (Whole id x.class (EchoRsp n status class has_data)) h idle
  said x id None (EchoRsp n status class has_data) wanted idle h =
      as_told (Whole id x.class (EchoRsp n status class has_data)) h idle
  said x id (Some b) (Other field n status has_data) wanted idle h =
      as_told (Whole id x.class (Other field n status has_data)) h idle
  said x id None (Other field n status has_data) wanted idle h =
      as_told (Whole id x.class (Other field n status has_data)) h idle

  by_says : (x : Pair) (a : Result (Option Message) DimseFault)
      → TakesValue c.assembly.awaited c.assembly.stage p a stage
      → Says x a told → IsOfAnswer stage told
  by_says x (Ok None) takes h = as_told Quiet h tt
  by_says x (Ok (Some m)) takes h =
      (let e = ended c.assembly.awaited c.assembly.stage p m stage fine takes in
      said x m.id m.body m.command e.1 e.0 h)
  by_says x (Err dimse.MixedContext) takes h = as_told Fault h tt
  by_says x (Err dimse.OutOfPlace) takes h = as_told Fault h tt
  by_says x (Err dimse.TooLong) takes h = as_told Fault h tt
  by_says x (Err dimse.BadCommand) takes h = as_told Fault h tt
  by_says x (Err dimse.Memory) takes h = absurd h

  strange : (told ≡ Strange) × (stage ≡ c.assembly.stage) → Out
  strange h = (
    as_told Strange h.0 tt,
    subst (λ (z : Taken). GoesOnAwaited c.assembly.awaited z) (sym h.1) fine,
  )

  by_pair : (o : Option Pair) → TellsIn o c p told stage → Out
  by_pair None h = strange h
  by_pair (Some x) h =
      (by_says x h.0 h.1 h.2, fine_next c.assembly.awaited c.assembly.stage p h.0 stage fine h.1)

  of_answer : (o : Option Agreed) → TellsValue o c p told stage → Out
  of_answer None h = strange h
  of_answer (Some agreed) h = by_pair (pair_at agreed p.id) h

-- ---- leaving

-- it left, and settled what it had pending
abbrev pub LeftWith : Network → Text → Option Instance → ℕ → Core → Desk → Desk → Effect → Type 0
LeftWith plan name item now c s t x =
    (answer : Option Answer) × Does plan name c now item answer s t × StaysOff c true x

release_fits : (limit : ℕ) → AreFit limit (pdu.ReleaseRq ∷ [])
release_fits limit = ((others_fit pdu.ReleaseRq (λ a e. cc) (λ a e. cc) (λ a e. cc), tt), tt)

module _ (plan : Network) (name : Text) (item : Option Instance) (moment : Moment) (c : Core)
    (s t : Desk) (x : Effect) (has : HasPendingOf item c) where
  abbrev pub LeavesIt : Type 0
  LeavesIt = LeftWith plan name item moment.now c s t x

  pending_still : (o : Option Instance) (d : Core)
      → d.pending ≡ c.pending → HasPendingOf o c → HasPendingOf o d
  pending_still None d same h = same ∙ h
  pending_still (Some i) d same (id, context, h) = (id, context, same ∙ h)

  does_still : (o : Option Instance) (answer : Option Answer) (d : Core)
      → d.peer ≡ c.peer
      → Does plan name d moment.now o answer s t
      → Does plan name c moment.now o answer s t
  does_still None None d same h = h
  does_still (Some i) (Some answer) d same h = subst
      (λ (p : Text). LedgerStep plan name s (Settle i.uid p Broken moment.now) (Settling answer) t)
      same h
  does_still None (Some answer) d same h = absurd h
  does_still (Some i) None d same h = absurd h

  left_as : (d : Core) (acts : List LinkAction) (pdus : List Pdu)
      → IsOff (left d) true → d.site ≡ c.site → d.peer ≡ c.peer → d.proposed ≡ c.proposed
      → d.pending ≡ c.pending
      → bytes_of acts ≡ spellings pdus
      → AllByRecursion IsControl pdus
      → ((limit : ℕ) → AreFit limit pdus)
      → Turns (LedgerStep plan name) (leaves_by d.pending moment.now acts d) s x t
      → LeavesIt
  left_as d acts pdus off site peer proposed pending bytes control fits h =
      let l = left_of plan name item moment.now acts d s t x (pending_still item d pending has) h in
      (l.0, does_still item l.0 d peer l.1, by_left l.2)
    where
      by_left : IsLeft acts d x → StaysOff c true x
      by_left (inl e) = subst
          (λ (y : Effect). StaysOff c true y) (sym e)
          (off, site, peer, proposed, (pdus, bytes, control, fits))
      by_left (inr e) = subst
          (λ (y : Effect). StaysOff c true y) (sym e)
          (off, site, peer, proposed, (pdus, bytes, control, fits))

  aborts_as : (source reason : ℕ) (a : Standing) (d : Core)
      → standing_of d.phase ≡ Some (moved a Sta13 moment.now)
      → a.requestor ≡ true → d.site ≡ c.site → d.peer ≡ c.peer → d.proposed ≡ c.proposed
      → d.pending ≡ c.pending
      → Turns (LedgerStep plan name)
      (leaves_by d.pending moment.now (write (abort_pdu source reason ∷ []) ∷ []) d) s x t
      → LeavesIt
  aborts_as source reason a d stands side site peer proposed pending h = left_as d
      (write (abort_pdu source reason ∷ []) ∷ []) (abort_pdu source reason ∷ [])
      (refl, inr (inr (moved a Sta13 moment.now, stands, side, refl))) site peer proposed pending
      (append-nil (spellings (abort_pdu source reason ∷ []))) (tt, tt)
      (λ limit. abort_fits limit source reason) h

  closes_as : (acts : List LinkAction) (d : Core)
      → bytes_of acts ≡ []
      → standing_of d.phase ≡ None
      → d.site ≡ c.site → d.peer ≡ c.peer → d.proposed ≡ c.proposed → d.pending ≡ c.pending
      → Turns (LedgerStep plan name) (leaves_by d.pending moment.now acts d) s x t
      → LeavesIt
  closes_as acts d none gone site peer proposed pending h =
      left_as d acts [] (refl, inl gone) site peer proposed pending none tt (λ limit. tt) h

  -- in a state with an association, or with a request under way
  module _ (state : State) (at : IsAt c true state) where
    abbrev pub there : State → Core
    there next = record c { phase = in_its_phase (moved at.0 next moment.now) }

    -- the service provider aborts
    provider : (told : Told) (e : UpperEvent)
        → event_of told moment c ≡ Some e
        → cell e state true (is_taken told moment c) ≡ Some (Aa8, Sta13)
        → Turns (LedgerStep plan name) (turn moment c told) s x t
        → LeavesIt
    provider told e event is h = aborts_as 2 (reason_of told) at.0 (aborted (there Sta13)) refl at.2
        refl refl refl refl
        (acts_as (LedgerStep plan name) moment c s t x told e true state Aa8 Sta13 at event is h)

    user : (told : Told)
        → event_of told moment c ≡ Some AbortRequest
        → cell AbortRequest state true (is_taken told moment c) ≡ Some (Aa1, Sta13)
        → Turns (LedgerStep plan name) (turn moment c told) s x t
        → LeavesIt
    user told event is h = aborts_as 0 0 at.0 (aborted (there Sta13)) refl at.2 refl refl refl refl
        (acts_as (LedgerStep plan name) moment c s t x told AbortRequest true state Aa1 Sta13 at
        event is h)

    abbrev late_as : Bool → Bool → Option UpperEvent
    late_as expired waited =
        if expired then Some ArtimExpired else if waited then Some AbortRequest else None

    late : runs_artim state ≡ false
        → cell AbortRequest state true true ≡ Some (Aa1, Sta13)
        → (waited : Bool)
        → is_impatient c moment.now ≡ waited
        → Turns (LedgerStep plan name) (turn moment c (Plain input.Late)) s x t
        → LeavesIt ⊎ ((x ≡ effect [] c) × (t ≡ s))
    late artim is waited w h =
        let expired : next_expired c.phase moment.now ≡ false =
        ap
        (λ (o : Option Standing).
        option_map_or (λ (a : Standing). has_expired a moment.now) o false) at.1
        ∙ (ap (λ (st : State). runs_artim st && nat_le (at.0.since + 30000) moment.now) at.3
        ∙ ap (λ (b : Bool). b && nat_le (at.0.since + 30000) moment.now) artim) in
        by_wait waited
        (ap (λ (b : Bool). late_as b (is_impatient c moment.now)) expired
        ∙ ap (λ (b : Bool). late_as false b) w)
      where
        by_wait : (b : Bool)
            → event_of (Plain input.Late) moment c ≡ late_as false b
            → LeavesIt ⊎ ((x ≡ effect [] c) × (t ≡ s))
        by_wait true event = inl (user (Plain input.Late) event is h)
        by_wait false event =
            inr (no_event (LedgerStep plan name) moment c s t x (Plain input.Late) event h)

-- ---- a requestor that awaits an answer to its request

module _ (plan : Network) (name : Text) (moment : Moment) (c : Core) (s t : Desk) (x : Effect)
    (at : IsAt c true Sta5) (free : c.pending ≡ None) (rq : AssociateRq)
    (proposed : c.proposed ≡ Some rq) where
  abbrev astep : Desk → DeskCall → DeskAnswer → Desk → Type 0
  astep = LedgerStep plan name

  abbrev opened : Agreed → Core
  opened agreed = record c {
    phase = in_its_phase (moved at.0 Sta6 moment.now);
    agreed = Some agreed;
    awaits = None;
  }

  abbrev closed : Core
  closed = left (record c { phase = in_its_phase (moved at.0 Sta1 moment.now) })

  abbrev pub Opened : Type 0
  Opened =
      (agreed : Agreed) × (ac : AssociateAc)
      × Concludes rq ac (Ok agreed)
      × (x ≡ effect [] (opened agreed))
      × (t ≡ s)

  -- no row was due, or the first one was settled; where the store failed before it is as an end
  -- that leaves
  abbrev pub Turned : Type 0
  Turned =
      StaysOff c true x
      × (((t ≡ s) × ((uid : Text) (due : ℕ) → IsDue s.book c.peer moment.now uid due → ⊥))
      ⊎ ((item : Instance) × (answer : Answer)
      × IsNext s.book c.peer moment.now item
      × astep s (Settle item.uid c.peer Broken moment.now) (Settling answer) t))

  abbrev pub AnswerHeard : Type 0
  AnswerHeard =
      LeftWith plan name None moment.now c s t x
      ⊎ (((x ≡ effect [] c) × (t ≡ s)) ⊎ (Opened ⊎ Turned))

  -- ---- an acceptance

  concludes : (ac : AssociateAc) (answer : Result Agreed NegoFault)
      → Concludes rq ac answer
      → Turns astep
      (agrees answer moment (record c { phase = in_its_phase (moved at.0 Sta6 moment.now) })) s x t
      → AnswerHeard
  concludes ac (Ok agreed) good h = inr (inr (inl (agreed, ac, good, h.0, h.1)))
  concludes ac (Err nego.StrangeId) bad h = inl
      (aborts_as plan name None moment c s t x free 0 0 (moved at.0 Sta6 moment.now)
      (aborted
      (stepped_by AbortRequest moment.now
      (record c { phase = in_its_phase (moved at.0 Sta6 moment.now) }))) refl at.2 refl refl refl
      refl h)
  concludes ac (Err nego.StrangeSyntax) bad h = inl
      (aborts_as plan name None moment c s t x free 0 0 (moved at.0 Sta6 moment.now)
      (aborted
      (stepped_by AbortRequest moment.now
      (record c { phase = in_its_phase (moved at.0 Sta6 moment.now) }))) refl at.2 refl refl refl
      refl h)
  concludes ac (Err nego.LimitTooSmall) bad h = inl
      (aborts_as plan name None moment c s t x free 0 0 (moved at.0 Sta6 moment.now)
      (aborted
      (stepped_by AbortRequest moment.now
      (record c { phase = in_its_phase (moved at.0 Sta6 moment.now) }))) refl at.2 refl refl refl
      refl h)
  concludes ac (Err nego.NoHop) bad h = absurd bad
  concludes ac (Err nego.Memory) bad h = absurd h

  hears_acceptance : (ac : AssociateAc)
      → (r : Reacts astep c (at_moment moment (input.Acceptance ac)) s x t)
      → AnswerHeard
  hears_acceptance ac r =
      let looks : Looks (Some Ae3) c (input.Acceptance ac) r.told r.stage = subst
      (λ (z : State). Looks (action_of AssociateAcPdu z) c (input.Acceptance ac) r.told r.stage)
      (state_is c true Sta5 at) r.tells in
      let tells : TellsAcceptance (Some rq) ac r.told =
      subst (λ (o : Option AssociateRq). TellsAcceptance o ac r.told) proposed looks.0 in
      let t1 : Turns astep (turn moment (with_stage r.stage c) (Agreement tells.0)) s x t = subst
      (λ (y : Told). Turns astep (turn moment (with_stage r.stage c) y) s x t) tells.2 r.turns in
      let t2 : Turns astep (turn moment c (Agreement tells.0)) s x t = subst
      (λ (y : Taken). Turns astep (turn moment (with_stage y c) (Agreement tells.0)) s x t) looks.1
      t1 in
      concludes ac tells.0 tells.1
      (acts_as astep moment c s t x (Agreement tells.0) AssociateAcPdu true Sta5 Ae3 Sta6 at refl
      refl t2)

  -- ---- a rejection

  module _ (rj : AssociateRj) where
    abbrev core : Core
    core = rejected rj closed

    out : (x ≡ effect (Close ∷ []) core) ⊎ (x ≡ effect (Close ∷ []) (desk_failed core))
        → StaysOff c true x
    out (inl e) = subst
        (λ (y : Effect). StaysOff c true y) (sym e)
        ((refl, inl refl), refl, refl, refl, ([], refl, tt, λ limit. tt))
    out (inr e) = subst
        (λ (y : Effect). StaysOff c true y) (sym e)
        ((refl, inl refl), refl, refl, refl, ([], refl, tt, λ limit. tt))

    by_settling : (uid : Text) (m : Desk) (a : DeskAnswer)
        → astep s (Settle uid core.peer Broken moment.now) a m
        → Turns astep
        (settling (Ends (effect (Close ∷ []) core)) (Ends (effect (Close ∷ []) (desk_failed core)))
        a) m x t
        → (answer : Answer)
        × astep s (Settle uid c.peer Broken moment.now) (Settling answer) t
        × StaysOff c true x
    by_settling uid m (Settling (Ok r)) h (e, same) = (
      Ok r,
      subst
          (λ (d : Desk). astep s (Settle uid core.peer Broken moment.now) (Settling (Ok r)) d)
          (sym same) h,
      out (inl e),
    )
    by_settling uid m (Settling (Err fault.NotWaiting)) h (e, same) = (
      Err fault.NotWaiting,
      subst
          (λ (d : Desk).
          astep s (Settle uid core.peer Broken moment.now) (Settling (Err fault.NotWaiting)) d)
          (sym same) h,
      out (inl e),
    )
    by_settling uid m (Settling (Err fault.Store)) h (e, same) = (
      Err fault.Store,
      subst
          (λ (d : Desk).
          astep s (Settle uid core.peer Broken moment.now) (Settling (Err fault.Store)) d)
          (sym same) h,
      out (inr e),
    )
    by_settling uid m (Settling (Err fault.Memory)) h q = absurd q
    by_settling uid m (Settling (Err fault.NoLine)) h q = absurd h.0
    by_settling uid m (Settling (Err fault.Conflict)) h q = absurd h.0
    by_settling uid m (Settling (Err fault.NotHeld)) h q = absurd h.0
    by_settling uid m (Settling (Err fault.NotOver)) h q = absurd h.0
    by_settling uid m (Arrival r) h q = absurd h
    by_settling uid m (Upcoming d) h q = absurd h
    by_settling uid m (First d) h q = absurd h

    by_first : (d : DeskAnswer) (m : Desk)
        → astep s (Due core.peer moment.now) d m
        → Turns astep (row (refused moment core) d) m x t
        → AnswerHeard
    by_first (Arrival r) m one h = absurd one
    by_first (Upcoming d) m one h = absurd one
    by_first (Settling r) m one h = absurd one
    by_first (First (Ok None)) m one h = inr (inr (inr (out (inl h.0), inl (h.1 ∙ one.1, one.0))))
    by_first (First (Ok (Some uid))) m one h =
        let a = by_settling uid h.1 h.0
        (subst (λ (d : Desk). astep d (Settle uid core.peer Broken moment.now) h.0 h.1) one.1 h.2)
        h.3 in
        inr
        (inr
        (inr (
          a.2,
          inr (
            one.0.0,
            a.0,
            one.0.1,
            subst
                (λ (u : Text). astep s (Settle u c.peer Broken moment.now) (Settling a.0) t) one.0.2
                a.1,
          ),
        )))
    by_first (First (Err fault.Store)) m one h = inl (None, h.1 ∙ one.1, out (inr h.0))
    by_first (First (Err fault.Memory)) m one h = absurd h
    by_first (First (Err fault.NoLine)) m one h = absurd one.0
    by_first (First (Err fault.Conflict)) m one h = absurd one.0
    by_first (First (Err fault.NotWaiting)) m one h = absurd one.0
    by_first (First (Err fault.NotHeld)) m one h = absurd one.0
    by_first (First (Err fault.NotOver)) m one h = absurd one.0

  -- ---- all else

  abbrev Plainly : Input → Type 0
  Plainly i = Turns astep (turn moment c (Plain i)) s x t

  aborted_by : (i : Input) (e : UpperEvent)
      → event_of (Plain i) moment c ≡ Some e
      → cell e Sta5 true (is_taken (Plain i) moment c) ≡ Some (Aa8, Sta13)
      → Plainly i → AnswerHeard
  aborted_by i e event is h =
      inl (provider plan name None moment c s t x free Sta5 at (Plain i) e event is h)

  idle_is : is_idle c ≡ true
  idle_is =
      ap (λ (o : Option Pending). is_requestor c && not (is_some o)) free
      ∙ ap (λ (b : Bool). b && true) (side_is c true Sta5 at)

  by_late : LeftWith plan name None moment.now c s t x ⊎ ((x ≡ effect [] c) × (t ≡ s)) → AnswerHeard
  by_late (inl h) = inl h
  by_late (inr h) = inr (inl h)

  pub answer_heard : (i : Input) → i ≢ input.PushAsked
      → Reacts astep c (at_moment moment i) s x t
      → AnswerHeard
  answer_heard (input.Request a) other r = aborted_by (input.Request a) AssociateRqPdu refl refl
      (as_plain astep moment c s t x (input.Request a) r r.tells)
  answer_heard (input.Acceptance ac) other r = hears_acceptance ac r
  answer_heard (input.Rejection a) other r =
      let d = acts_as astep moment c s t x (Plain (input.Rejection a)) AssociateRjPdu true Sta5 Ae4
      Sta1 at refl refl (as_plain astep moment c s t x (input.Rejection a) r r.tells) in
      by_first a d.0 d.1 d.2 d.3
  answer_heard (input.Value p) other r = aborted_by (input.Value p) DataPdu refl refl
      (as_plain astep moment c s t x (input.Value p) r
      (subst
      (λ (z : State). Looks (action_of DataPdu z) c (input.Value p) r.told r.stage)
      (state_is c true Sta5 at) r.tells))
  answer_heard input.NoValue other r = aborted_by input.NoValue DataPdu refl refl
      (as_plain astep moment c s t x input.NoValue r r.tells)
  answer_heard input.ReleaseRq other r = aborted_by input.ReleaseRq ReleaseRqPdu refl refl
      (as_plain astep moment c s t x input.ReleaseRq r r.tells)
  answer_heard input.ReleaseRp other r = aborted_by input.ReleaseRp ReleaseRpPdu refl refl
      (as_plain astep moment c s t x input.ReleaseRp r r.tells)
  answer_heard (input.Abort a) other r = inl
      (closes_as plan name None moment c s t x free (Close ∷ [])
      (aborted (record c { phase = in_its_phase (moved at.0 Sta1 moment.now) })) refl refl refl refl
      refl refl
      (acts_as astep moment c s t x (Plain (input.Abort a)) AbortPdu true Sta5 Aa3 Sta1 at refl refl
      (as_plain astep moment c s t x (input.Abort a) r r.tells)))
  answer_heard input.Unknown other r = aborted_by input.Unknown InvalidPdu refl refl
      (as_plain astep moment c s t x input.Unknown r r.tells)
  answer_heard input.Invalid other r = aborted_by input.Invalid InvalidPdu refl refl
      (as_plain astep moment c s t x input.Invalid r r.tells)
  answer_heard input.Ended other r = inl
      (closes_as plan name None moment c s t x free []
      (record c { phase = in_its_phase (moved at.0 Sta1 moment.now) }) refl refl refl refl refl refl
      (acts_as astep moment c s t x (Plain input.Ended) TransportClosed true Sta5 Aa4 Sta1 at refl
      refl (as_plain astep moment c s t x input.Ended r r.tells)))
  answer_heard input.Late other r = by_late
      (late plan name None moment c s t x free Sta5 at refl refl (is_impatient c moment.now) refl
      (as_plain astep moment c s t x input.Late r r.tells))
  answer_heard input.AbortAsked other r = inl
      (user plan name None moment c s t x free Sta5 at (Plain input.AbortAsked) refl refl
      (as_plain astep moment c s t x input.AbortAsked r r.tells))
  answer_heard input.ReleaseAsked other r = inr
      (inl
      (no_cell astep moment c s t x (Plain input.ReleaseAsked) ReleaseRequest true Sta5 at
      (ap (λ (b : Bool). if b then Some ReleaseRequest else None) idle_is) refl
      (as_plain astep moment c s t x input.ReleaseAsked r r.tells)))
  answer_heard input.PushAsked other r = absurd (other refl)

-- ---- a requestor with an association

-- the end stays established, with what it agreed on and has pending
abbrev pub StaysOn : Core → Core → Type 0
StaysOn c d =
    IsAt d true Sta6 × (d.agreed ≡ c.agreed) × (d.peer ≡ c.peer) × (d.pending ≡ c.pending)
    × (d.assembly.awaited ≡ c.assembly.awaited)
    × (d.site ≡ c.site)
    × (d.proposed ≡ c.proposed)
    × GoesOnAwaited d.assembly.awaited d.assembly.stage
    × (may_send d.phase ≡ true)

-- the answer to its store, which it settles; then it goes on, or aborts where its store failed
abbrev pub Settled : Network → Text → Option Instance → Moment → Core → Desk → Desk → Effect
    → Type 0
Settled plan name None moment c s t x = ⊥
Settled plan name (Some item) moment c s t x =
    (status : ℕ) × (answer : Answer) × (d : Core)
    × LedgerStep plan name s (Settle item.uid c.peer (Status status) moment.now) (Settling answer) t
    × GoesOn answer d moment x × IsAt d true Sta6 × (d.agreed ≡ c.agreed) × (d.peer ≡ c.peer)
    × (d.site ≡ c.site)
    × (d.assembly.stage ≡ Idle)
    × (may_send d.phase ≡ true)
    × IsOff (desk_failed (aborted (left (stepped_by AbortRequest moment.now d)))) true

abbrev pub ReplyHeard : Network → Text → Option Instance → Moment → Core → Desk → Desk → Effect
    → Type 0
ReplyHeard plan name item moment c s t x =
    LeftWith plan name item moment.now c s t x
    ⊎ (((d : Core) × (x ≡ effect [] d) × (t ≡ s) × StaysOn c d)
    ⊎ Settled plan name item moment c s t x)

module _ (plan : Network) (name : Text) (item : Option Instance) (moment : Moment) (c : Core)
    (s t : Desk) (x : Effect) (at : IsAt c true Sta6) (has : HasPendingOf item c)
    (fine : GoesOnAwaited c.assembly.awaited c.assembly.stage) (sends : may_send c.phase ≡ true)
  where
    abbrev hstep : Desk → DeskCall → DeskAnswer → Desk → Type 0
    hstep = LedgerStep plan name

    abbrev on : State → Core
    on next = record c { phase = in_its_phase (moved at.0 next moment.now) }

    abbrev Result_is : Type 0
    Result_is = ReplyHeard plan name item moment c s t x

    same_on : (x ≡ effect [] c) × (t ≡ s) → Result_is
    same_on h = inr (inl (c, h.0, h.1, (at, refl, refl, refl, refl, refl, refl, fine, sends)))

    quiet_on : (x ≡ effect [] (on Sta6)) × (t ≡ s) → Result_is
    quiet_on h = inr
        (inl (
          on Sta6,
          h.0,
          h.1,
          (
            (moved at.0 Sta6 moment.now, refl, at.2, refl),
            refl,
            refl,
            refl,
            refl,
            refl,
            refl,
            fine,
            refl,
          ),
        ))

    cut_off : (told : Told) (e : UpperEvent)
        → event_of told moment c ≡ Some e
        → cell e Sta6 true (is_taken told moment c) ≡ Some (Aa8, Sta13)
        → Turns hstep (turn moment c told) s x t
        → Result_is
    cut_off told e event is h =
        inl (provider plan name item moment c s t x has Sta6 at told e event is h)

    hears_on : (told : Told)
        → event_of told moment c ≡ Some DataPdu
        → is_taken told moment c ≡ true
        → Turns hstep (turn moment c told) s x t
        → Turns hstep (Rattle.dr_session.specs.Reactions.hears told moment (on Sta6)) s x t
    hears_on told event taken h =
        acts_as hstep moment c s t x told DataPdu true Sta6 Dt2 Sta6 at event refl h

    aborts_on : Turns hstep (Rattle.dr_session.specs.Reactions.aborts moment (on Sta6)) s x t
        → Result_is
    aborts_on h = inl
        (aborts_as plan name item moment c s t x has 0 0 (moved at.0 Sta6 moment.now)
        (aborted (stepped_by AbortRequest moment.now (on Sta6))) refl at.2 refl refl refl refl h)

    -- ---- a response

    settles : (i : Instance) (answer : Answer) (status : ℕ)
        → c.assembly.stage ≡ Idle
        → hstep s (Settle i.uid c.peer (Status status) moment.now) (Settling answer) t
        → GoesOn answer (on Sta6) moment x
        → Settled plan name (Some i) moment c s t x
    settles i answer status idle call goes = (
      status,
      answer,
      on Sta6,
      call,
      goes,
      (moved at.0 Sta6 moment.now, refl, at.2, refl),
      refl,
      refl,
      refl,
      idle,
      refl,
      (refl, inr (inr (moved (moved at.0 Sta6 moment.now) Sta13 moment.now, refl, at.2, refl))),
    )

    by_status : (i : Instance) (id context : ℕ)
        → item ≡ Some i → c.assembly.stage ≡ Idle → (o : Option ℕ)
        → Turns hstep (settles_by (storing id context i.uid) o moment (on Sta6)) s x t
        → Result_is
    by_status i id context is idle None h = aborts_on h
    by_status i id context is idle (Some status) h =
        let a = by_answer plan name (storing id context i.uid) (Status status) moment (on Sta6) s
        h.1 t x h.0 h.2 h.3 in
        subst
        (λ (o : Option Instance). ReplyHeard plan name o moment c s t x) (sym is)
        (inr (inr (settles i a.0 status idle a.1 a.2)))

    replies : (o : Option Instance) → item ≡ o → HasPendingOf o c → c.assembly.stage ≡ Idle
        → (context : ℕ) (command : Command)
        → Turns hstep (replied c.pending context command moment (on Sta6)) s x t
        → Result_is
    replies None is none idle context command h = aborts_on
        (subst
        (λ (o : Option Pending). Turns hstep (replied o context command moment (on Sta6)) s x t)
        none h)
    replies (Some i) is (id, number, pending) idle context command h = by_status i id number is idle
        (status_for (storing id number i.uid) context command)
        (subst
        (λ (o : Option Pending). Turns hstep (replied o context command moment (on Sta6)) s x t)
        pending h)

    -- ---- all that is told of a value

    valued : (told : Told)
        → IsOfAnswer c.assembly.stage told
        → Turns hstep (turn moment c told) s x t
        → Result_is
    valued Quiet is h = quiet_on (hears_on Quiet refl refl h)
    valued Fault is h = aborts_on (hears_on Fault refl refl h)
    valued Strange is h = cut_off Strange InvalidPdu refl refl h
    valued (Whole context of command) is h = replies item refl has is context command
        (subst
        (λ (b : Bool). Turns hstep
        (if b
        then replied c.pending context command moment (on Sta6)
        else requested (on Sta6) context of command) s x t) at.2
        (hears_on (Whole context of command) refl refl h))
    valued (Store context of id class instance found) is h = absurd is
    valued (Plain i) is h = absurd is
    valued (Agreement answer) is h = absurd is

    -- ---- all that is told as it came

    by_mark : LeftWith plan name item moment.now c s t x ⊎ ((x ≡ effect [] c) × (t ≡ s)) → Result_is
    by_mark (inl h) = inl h
    by_mark (inr h) = same_on h

    released_by : (awaits : (o : Option Instance) → item ≡ o → o ≡ None
        → c.assembly.awaited ≡ NothingAwaited) (o : Option Instance)
        → item ≡ o → HasPendingOf o c
        → Turns hstep (turn moment c (Plain input.ReleaseAsked)) s x t
        → Result_is
    released_by awaits None is none h =
        let idle : is_idle c ≡ true =
        ap (λ (p : Option Pending). is_requestor c && not (is_some p)) none
        ∙ ap (λ (b : Bool). b && true) (side_is c true Sta6 at) in
        let a : (x
        ≡ effect (write (pdu.ReleaseRq ∷ []) ∷ []) (record (on Sta7) { awaits = Some moment.now }))
        × (t ≡ s) = acts_as hstep moment c s t x (Plain input.ReleaseAsked) ReleaseRequest true Sta6
        Ar1 Sta7 at (ap (λ (b : Bool). if b then Some ReleaseRequest else None) idle) refl h in
        let nothing : c.assembly.awaited ≡ NothingAwaited = awaits None is refl in
        let core : Core = record (on Sta7) { awaits = Some moment.now } in
        let off : StaysOff c true (effect (write (pdu.ReleaseRq ∷ []) ∷ []) core) = (
          (
            none,
            inr
                (inl (
                  refl,
                  inl (moved at.0 Sta7 moment.now, refl, at.2, refl),
                  nothing,
                  no_data
                      c.assembly.stage
                      (subst (λ (w : Awaited). GoesOnAwaited w c.assembly.stage) nothing fine),
                )),
          ),
          refl,
          refl,
          refl,
          (pdu.ReleaseRq ∷ [], append-nil (spellings (pdu.ReleaseRq ∷ [])), (tt, tt), release_fits),
        ) in
        subst
        (λ (o : Option Instance). ReplyHeard plan name o moment c s t x) (sym is)
        (inl (None, a.1, subst (λ (y : Effect). StaysOff c true y) (sym a.0) off))
      where
        no_data : (stage : Taken) → GoesOnAwaited NothingAwaited stage → data_of stage ≡ None
        no_data Idle h = refl
        no_data (InCommand id text) h = refl
        no_data (InData id command body) h = absurd h
    released_by awaits (Some i) is (id, context, pending) h =
        let idle : is_idle c ≡ false =
        ap (λ (p : Option Pending). is_requestor c && not (is_some p)) pending
        ∙ ap (λ (b : Bool). b && false) (side_is c true Sta6 at) in
        same_on
        (no_event hstep moment c s t x (Plain input.ReleaseAsked)
        (ap (λ (b : Bool). if b then Some ReleaseRequest else None) idle) h)

    plainly : ((o : Option Instance) → item ≡ o → o ≡ None → c.assembly.awaited ≡ NothingAwaited)
        → (i : Input) → i ≢ input.PushAsked
        → Turns hstep (turn moment c (Plain i)) s x t
        → Result_is
    plainly awaits (input.Request a) other h =
        cut_off (Plain (input.Request a)) AssociateRqPdu refl refl h
    plainly awaits (input.Acceptance a) other h =
        cut_off (Plain (input.Acceptance a)) AssociateAcPdu refl refl h
    plainly awaits (input.Rejection a) other h =
        cut_off (Plain (input.Rejection a)) AssociateRjPdu refl refl h
    plainly awaits (input.Value p) other h = quiet_on (hears_on (Plain (input.Value p)) refl refl h)
    plainly awaits input.NoValue other h = quiet_on (hears_on (Plain input.NoValue) refl refl h)
    plainly awaits input.ReleaseRq other h = inl
        (left_as plan name item moment c s t x has
        (released (stepped_by ReleaseResponse moment.now (on Sta8)))
        (write (pdu.ReleaseRp ∷ []) ∷ []) (pdu.ReleaseRp ∷ [])
        (refl, inr (inr (moved (moved at.0 Sta8 moment.now) Sta13 moment.now, refl, at.2, refl)))
        refl refl refl refl (append-nil (spellings (pdu.ReleaseRp ∷ []))) (tt, tt) close_fits
        (acts_as hstep moment c s t x (Plain input.ReleaseRq) ReleaseRqPdu true Sta6 Ar2 Sta8 at
        refl refl h))
    plainly awaits input.ReleaseRp other h =
        cut_off (Plain input.ReleaseRp) ReleaseRpPdu refl refl h
    plainly awaits (input.Abort a) other h = inl
        (closes_as plan name item moment c s t x has (Close ∷ []) (aborted (on Sta1)) refl refl refl
        refl refl refl
        (acts_as hstep moment c s t x (Plain (input.Abort a)) AbortPdu true Sta6 Aa3 Sta1 at refl
        refl h))
    plainly awaits input.Unknown other h = cut_off (Plain input.Unknown) InvalidPdu refl refl h
    plainly awaits input.Invalid other h = cut_off (Plain input.Invalid) InvalidPdu refl refl h
    plainly awaits input.Ended other h = inl
        (closes_as plan name item moment c s t x has [] (on Sta1) refl refl refl refl refl refl
        (acts_as hstep moment c s t x (Plain input.Ended) TransportClosed true Sta6 Aa4 Sta1 at refl
        refl h))
    plainly awaits input.Late other h = by_mark
        (late plan name item moment c s t x has Sta6 at refl refl (is_impatient c moment.now) refl
        h)
    plainly awaits input.AbortAsked other h =
        inl (user plan name item moment c s t x has Sta6 at (Plain input.AbortAsked) refl refl h)
    plainly awaits input.ReleaseAsked other h = released_by awaits item refl has h
    plainly awaits input.PushAsked other h = absurd (other refl)

module _ (plan : Network) (name : Text) (item : Option Instance) (moment : Moment) (c : Core)
    (s t : Desk) (x : Effect) (at : IsAt c true Sta6) (has : HasPendingOf item c)
    (none : AwaitsNoRequest c.assembly.awaited)
    (fine : GoesOnAwaited c.assembly.awaited c.assembly.stage) (sends : may_send c.phase ≡ true)
    (awaits : (o : Option Instance) → item ≡ o → o ≡ None → c.assembly.awaited ≡ NothingAwaited)
  where
    by_plain : (i : Input) → i ≢ input.PushAsked
        → (r : Reacts (LedgerStep plan name) c (at_moment moment i) s x t)
        → (r.told ≡ Plain i) × (r.stage ≡ c.assembly.stage)
        → ReplyHeard plan name item moment c s t x
    by_plain i other r is = plainly plan name item moment c s t x at has fine sends awaits i other
        (as_plain (LedgerStep plan name) moment c s t x i r is)

    -- what is under way counts for nothing here
    module _ (stage : Taken) where
      pending_as : (o : Option Instance) → HasPendingOf o c → HasPendingOf o (with_stage stage c)
      pending_as None h = h
      pending_as (Some i) h = h

      does_as : (o : Option Instance) (answer : Option Answer)
          → Does plan name (with_stage stage c) moment.now o answer s t
          → Does plan name c moment.now o answer s t
      does_as None None h = h
      does_as (Some i) (Some answer) h = h
      does_as None (Some answer) h = h
      does_as (Some i) None h = h

      settled_as : (o : Option Instance)
          → Settled plan name o moment (with_stage stage c) s t x
          → Settled plan name o moment c s t x
      settled_as None h = h
      settled_as (Some i) h = h

      heard_as : ReplyHeard plan name item moment (with_stage stage c) s t x
          → ReplyHeard plan name item moment c s t x
      heard_as (inl h) = inl (h.0, does_as item h.0 h.1, h.2)
      heard_as (inr (inl h)) = inr (inl h)
      heard_as (inr (inr h)) = inr (inr (settled_as item h))

    pub reply_heard : (i : Input) → i ≢ input.PushAsked
        → Reacts (LedgerStep plan name) c (at_moment moment i) s x t
        → ReplyHeard plan name item moment c s t x
    reply_heard (input.Value p) other r =
        let looks : TellsValue c.agreed c p r.told r.stage = subst
        (λ (z : State). Looks (action_of DataPdu z) c (input.Value p) r.told r.stage)
        (state_is c true Sta6 at) r.tells in
        let a = of_answer c p r.told r.stage none fine c.agreed looks in
        heard_as r.stage
        (valued plan name item moment (with_stage r.stage c) s t x at (pending_as r.stage item has)
        a.1 sends r.told a.0 r.turns)
    reply_heard (input.Acceptance a) other r = by_plain (input.Acceptance a) other r
        (subst
        (λ (z : State). Looks (action_of AssociateAcPdu z) c (input.Acceptance a) r.told r.stage)
        (state_is c true Sta6 at) r.tells)
    reply_heard (input.Request a) other r = by_plain (input.Request a) other r r.tells
    reply_heard (input.Rejection a) other r = by_plain (input.Rejection a) other r r.tells
    reply_heard input.NoValue other r = by_plain input.NoValue other r r.tells
    reply_heard input.ReleaseRq other r = by_plain input.ReleaseRq other r r.tells
    reply_heard input.ReleaseRp other r = by_plain input.ReleaseRp other r r.tells
    reply_heard (input.Abort a) other r = by_plain (input.Abort a) other r r.tells
    reply_heard input.Unknown other r = by_plain input.Unknown other r r.tells
    reply_heard input.Invalid other r = by_plain input.Invalid other r r.tells
    reply_heard input.Ended other r = by_plain input.Ended other r r.tells
    reply_heard input.Late other r = by_plain input.Late other r r.tells
    reply_heard input.AbortAsked other r = by_plain input.AbortAsked other r r.tells
    reply_heard input.ReleaseAsked other r = by_plain input.ReleaseAsked other r r.tells
    reply_heard input.PushAsked other r = absurd (other refl)

-- the last value of the response that it awaits
module _ (plan : Network) (name : Text) (item : Instance) (moment : Moment) (c : Core) (s t : Desk)
    (x : Effect) (at : IsAt c true Sta6) (fine : GoesOnAwaited c.assembly.awaited c.assembly.stage)
    (sends : may_send c.phase ≡ true) (agreed : Agreed) (has : c.agreed ≡ Some agreed)
    (id context : ℕ) (pending : c.pending ≡ Some (storing id context item.uid)) (value : Pdv)
    (pair : Pair) (found : pair_at agreed value.id ≡ Some pair) (status : ℕ) (class instance : Text)
    (has_data : Bool) (b : Option Body) (stage : Taken) where
  abbrev response : Command
  response = StoreRsp id status class instance has_data

  abbrev behind : Core
  behind = with_stage stage c

  whole_told : (o : Option Body) (told : Told)
      → SaysOf pair context o response told
      → told ≡ Whole context pair.class response
  whole_told None told h = h
  whole_told (Some data_set) told h = h

  pub response_settles : TakesValue c.assembly.awaited c.assembly.stage value
      (Ok (Some (message context response b))) stage
      → Reacts (LedgerStep plan name) c (at_moment moment (input.Value value)) s x t
      → (answer : Answer)
      × (status_is : LedgerStep plan name s (Settle item.uid c.peer (Status status) moment.now)
      (Settling answer) t)
      × GoesOn answer (record behind { phase = in_its_phase (moved at.0 Sta6 moment.now) }) moment x
      × (stage ≡ Idle)
  response_settles takes r =
      let told = told_by (LedgerStep plan name) moment c value agreed pair true at has found s t x r
      (Some (message context response b)) stage takes in
      let is : told.0 ≡ Whole context pair.class response = whole_told b told.0 told.1 in
      let h :
      Turns (LedgerStep plan name) (turn moment behind (Whole context pair.class response)) s x t =
      subst (λ (y : Told). Turns (LedgerStep plan name) (turn moment behind y) s x t) is told.2 in
      let core : Core = record behind { phase = in_its_phase (moved at.0 Sta6 moment.now) } in
      let a : Turns (LedgerStep plan name)
      (if is_requestor core
      then replied core.pending context response moment core
      else requested core context pair.class response) s x t = acts_as (LedgerStep plan name) moment
      behind s t x (Whole context pair.class response) DataPdu true Sta6 Dt2 Sta6 at refl refl h in
      let d :
      Turns (LedgerStep plan name) (replied core.pending context response moment core) s x t =
      subst
      (λ (y : Bool). Turns (LedgerStep plan name)
      (if y
      then replied core.pending context response moment core
      else requested core context pair.class response) s x t) at.2 a in
      let e : Turns (LedgerStep plan name)
      (replied (Some (storing id context item.uid)) context response moment core) s x t = subst
      (λ (o : Option Pending).
      Turns (LedgerStep plan name) (replied o context response moment core) s x t) pending d in
      let f : Turns (LedgerStep plan name)
      (settles_by (storing id context item.uid) (Some status) moment core) s x t = subst
      (λ (y : Bool). Turns (LedgerStep plan name)
      (settles_by (storing id context item.uid) (if y then Some status else None) moment core) s x
      t) (eq-eqb context context refl) e in
      let g = by_answer plan name (storing id context item.uid) (Status status) moment core s f.1 t
      x f.0 f.2 f.3 in (
        g.0,
        g.1,
        g.2,
        (ended c.assembly.awaited c.assembly.stage value (message context response b) stage fine
            takes).0,
      )
