-- What an acceptor does with an input, whoever wrote it.
use Rattle.std.proofs.Common.{◌≡◌, ℕ, Bool, true, false, List, [], ◌∷◌, Option, Some, None}
use Rattle.std.proofs.Common.{Result, Ok, Err, Contains, refl, sym, ap, subst, ◌∙◌, inl, inr, ◌⊎◌}
use Rattle.std.proofs.Common.{arith}
use Rattle.std.specs.Prelude.{◌&&◌, ◌||◌, ◌==◌, ◌%◌, ◌+◌, nat_le, not, is_some, if◌then◌else◌}
use Rattle.std.specs.List.{AllByRecursion, list_any}
use Rattle.std.specs.Option.{option_map_or}
use Rattle.std.specs.Str.{bytes_eq}
use Rattle.std.proofs.lemmas.Bool.{false≢true}
use Rattle.std.proofs.lemmas.List.{append-nil}
use Rattle.std.proofs.lemmas.Slice.Eq.{bytes_eq-Decides}
use Rattle.dr_base.specs.Texts.{Text}
use Rattle.dr_base.specs.Syntaxes.{syntax_uid}
use Rattle.dr_route.specs.Routes.{local}
use Rattle.dr_route.specs.declared.accept.AcceptRow.{AcceptRow}
use Rattle.dr_site.specs.Parts.{Part}
use Rattle.dr_ulstate.specs.declared.table.Action.{Action}
use Rattle.dr_ulstate.specs.declared.table.Action.TheVariants.{Aa1, Aa2, Aa3, Aa4, Aa5, Aa8, Ar2}
use Rattle.dr_ulstate.specs.declared.table.Action.TheVariants.{Dt2}
use Rattle.dr_ulstate.specs.declared.table.Event.{Event as UpperEvent}
use Rattle.dr_ulstate.specs.declared.table.Event.TheVariants.{AssociateAcPdu, AssociateRjPdu}
use Rattle.dr_ulstate.specs.declared.table.Event.TheVariants.{AssociateRqPdu, RejectResponse}
use Rattle.dr_ulstate.specs.declared.table.Event.TheVariants.{DataPdu, ReleaseRqPdu, ReleaseRpPdu}
use Rattle.dr_ulstate.specs.declared.table.Event.TheVariants.{ReleaseResponse, AbortRequest}
use Rattle.dr_ulstate.specs.declared.table.Event.TheVariants.{AbortPdu, TransportClosed}
use Rattle.dr_ulstate.specs.declared.table.Event.TheVariants.{ArtimExpired, InvalidPdu}
use Rattle.dr_ulstate.specs.declared.table.State.{State}
use Rattle.dr_ulstate.specs.declared.table.State.TheVariants.{Sta1, Sta2, Sta3, Sta6, Sta8, Sta13}
use Rattle.dr_ulstate.specs.declared.phase.Next.{Next}
use Rattle.dr_ulstate.specs.Table.{cell, action_of}
use Rattle.dr_ulstate.specs.Standing.{Standing, moved, runs_artim, has_expired}
use Rattle.dr_ulstate.specs.Phases.{standing_of, state_of, next_stepped, after_cell, in_its_phase}
use Rattle.dr_ulstate.specs.Phases.{next_expired, may_send}
use Rattle.dr_pdu.specs.declared.pdu.Pdu.{Pdu}
use Rattle.dr_pdu.specs.declared.pdu.Pdu.TheVariants as pdu
use Rattle.dr_pdu.specs.declared.pdu.Pdv.{Pdv}
use Rattle.dr_pdu.specs.declared.pdu.AssociateRj.{AssociateRj}
use Rattle.dr_dimse.specs.declared.command.Command.{Command}
use Rattle.dr_dimse.specs.declared.command.Command.TheVariants.{StoreRq, StoreRsp, EchoRq, EchoRsp}
use Rattle.dr_dimse.specs.declared.command.Command.TheVariants.{Other}
use Rattle.dr_dimse.specs.declared.message.Body.{Body}
use Rattle.dr_dimse.specs.declared.message.Body.TheVariants as body
use Rattle.dr_dimse.specs.declared.message.Message.{Message}
use Rattle.dr_dimse.specs.declared.fault.DimseFault.{DimseFault}
use Rattle.dr_dimse.specs.declared.fault.DimseFault.TheVariants as dimse
use Rattle.dr_dimse.specs.Taking.{MessageStage as Taken}
use Rattle.dr_ledger.specs.declared.content.Job.{Job}
use Rattle.dr_ledger.specs.declared.content.ItemFault.TheVariants as items
use Rattle.dr_nego.specs.Fragments.{spellings}
use Rattle.dr_nego.specs.declared.agreed.Agreed.{Agreed}
use Rattle.dr_nego.specs.declared.agreed.Pair.{Pair}
use Rattle.dr_nego.specs.declared.answering.Answer.{Answer}
use Rattle.dr_nego.specs.declared.answering.Answer.TheVariants.{Accept, Reject, TooSmall}
use Rattle.dr_nego.specs.Agreeing.{AssociateRq, pair_at, is_id}
use Rattle.dr_nego.specs.Answering.{answer, answer_by, acceptance_of, agreed_by, is_stranger, is_caller}
use Rattle.dr_base.specs.Standard.{application_context}
use Rattle.dr_nego.proofs.OneContext.{found_is}
use Rattle.dr_session.specs.declared.ends.Core.{Core}
use Rattle.dr_session.specs.declared.ends.Effect.{Effect}
use Rattle.dr_session.specs.declared.ends.Found.{Found}
use Rattle.dr_session.specs.declared.ends.Found.TheVariants.{Read, Nameless, Unreadable, TooLarge}
use Rattle.dr_session.specs.declared.ends.Input.{Input}
use Rattle.dr_session.specs.declared.ends.Input.TheVariants as input
use Rattle.dr_session.specs.declared.ends.LinkAction.{LinkAction}
use Rattle.dr_session.specs.declared.ends.LinkAction.TheVariants.{Close}
use Rattle.dr_session.specs.declared.ends.Moment.{Moment}
use Rattle.dr_session.specs.declared.ends.Told.{Told}
use Rattle.dr_session.specs.declared.ends.Told.TheVariants.{Plain, Quiet, Fault, Strange, Store}
use Rattle.dr_session.specs.declared.ends.Told.TheVariants.{Whole, Agreement}
use Rattle.dr_session.specs.Desks.{DeskCall, DeskAnswer, Arrive, Arrival, Upcoming, First, Settling}
use Rattle.dr_session.specs.Reactions.{Reaction, turn, occurs, moves, acts, event_of, is_taken}
use Rattle.dr_session.specs.Reactions.{is_taken_at, is_acceptable, is_requestor, is_idle}
use Rattle.dr_session.specs.Reactions.{has_waited, decides, decides_at, stepped_by, leaves_by, left, aborted, released, rejected, rj, effect, write, abort_pdu, reason_of, requested, requested_other, replied, stores, arrives, brings, is_named, arrival, stored, says}
use Rattle.dr_ledger.specs.Replies.{store_status, Reply}
use Rattle.dr_session.specs.Telling.{Looks, Tells, TellsValue, TellsIn, Says, SaysOf}
use Rattle.dr_session.specs.Telling.{FindsIn}
use Rattle.dr_session.specs.Turns.{Turns, Ends, Asks}
use Rattle.dr_session.specs.Plays.{Reacts, at_moment, with_stage}
use Rattle.dr_world_tie.specs.Channels.{IsAt, IsOff, IsControl, bytes_of}
use Rattle.dr_world_tie.specs.Ties.{StaysOff}
use Rattle.dr_world_tie.specs.Foreign.{Nothing, Writes, IsNoSuccess}
use Rattle.dr_world_tie.proofs.Agreeing.{stepped_at, accepted_core, accept_turns, by_cell, decided}
use Rattle.dr_world_tie.proofs.Leaving.{AreFit, left_nothing, abort_fits}
use Rattle.dr_world_tie.proofs.Controls.{close_fits}

-- it left, or stayed off
abbrev pub Gone : {S : Type 0} → Core → S → S → Effect → Type 0
Gone c s u x = (u ≡ s) × StaysOff c false x

pub state_is : (c : Core) (requestor : Bool) (state : State)
    → IsAt c requestor state → state_of c.phase ≡ state
state_is c requestor state at =
    ap (λ (o : Option Standing). option_map_or (λ (b : Standing). b.state) o Sta1) at.1 ∙ at.3

pub side_is : (c : Core) (requestor : Bool) (state : State)
    → IsAt c requestor state
    → is_requestor c ≡ requestor
side_is c requestor state at =
    ap (λ (o : Option Standing). option_map_or (λ (b : Standing). b.requestor) o false) at.1 ∙ at.2

-- ---- turns

module _ {S : Type 0} (step : S → DeskCall → DeskAnswer → S → Type 0) (moment : Moment) (c : Core)
    (s u : S) (x : Effect) where
  pub no_event : (told : Told)
      → event_of told moment c ≡ None
      → Turns step (turn moment c told) s x u
      → (x ≡ effect [] c) × (u ≡ s)
  no_event told e h =
      subst (λ (o : Option UpperEvent). Turns step (occurs o moment told c) s x u) e h

  at_cell : (told : Told) (e : UpperEvent) (requestor : Bool) (state : State)
      (at : IsAt c requestor state)
      → event_of told moment c ≡ Some e
      → Turns step (turn moment c told) s x u
      → Turns step
      (moves (after_cell (cell e state requestor (is_taken told moment c)) at.0 moment.now c.phase)
      moment told c) s x u
  at_cell told e requestor state at event h =
      let t : Turns step
      (moves (next_stepped e (is_taken told moment c) c.phase moment.now) moment told c) s x u =
      subst (λ (o : Option UpperEvent). Turns step (occurs o moment told c) s x u) event h in
      subst
      (λ (r : Result (Action × Next) Next). Turns step (moves r moment told c) s x u)
      (stepped_at e (is_taken told moment c) c.phase moment.now requestor state at.0 at.1 at.2 at.3)
      t

  -- an event that the table doesn't have in the state
  pub no_cell : (told : Told) (e : UpperEvent) (requestor : Bool) (state : State)
      (at : IsAt c requestor state)
      → event_of told moment c ≡ Some e
      → cell e state requestor (is_taken told moment c) ≡ None
      → Turns step (turn moment c told) s x u
      → (x ≡ effect [] c) × (u ≡ s)
  no_cell told e requestor state at event none h = subst
      (λ (o : Option (Action × State)).
      Turns step (moves (after_cell o at.0 moment.now c.phase) moment told c) s x u) none
      (at_cell told e requestor state at event h)

  -- one that it has, whether or not what was told is taken
  pub acts_as : (told : Told) (e : UpperEvent) (requestor : Bool) (state : State) (act : Action)
      (next : State) (at : IsAt c requestor state)
      → event_of told moment c ≡ Some e
      → cell e state requestor (is_taken told moment c) ≡ Some (act, next)
      → Turns step (turn moment c told) s x u
      → Turns step
      (acts act moment told (record c { phase = in_its_phase (moved at.0 next moment.now) })) s x u
  acts_as told e requestor state act next at event is h = subst
      (λ (o : Option (Action × State)).
      Turns step (moves (after_cell o at.0 moment.now c.phase) moment told c) s x u) is
      (at_cell told e requestor state at event h)

  -- an input that is told as it came
  pub as_plain : (i : Input)
      → (r : Reacts step c (at_moment moment i) s x u)
      → (r.told ≡ Plain i) × (r.stage ≡ c.assembly.stage)
      → Turns step (turn moment c (Plain i)) s x u
  as_plain i r is = subst
      (λ (y : Taken). Turns step (turn moment (with_stage y c) (Plain i)) s x u) is.1
      (subst (λ (y : Told). Turns step (turn moment (with_stage r.stage c) y) s x u) is.0 r.turns)

  -- ---- leaving

  left_with : (acts : List LinkAction) (d : Core) (pdus : List Pdu)
      → IsOff (left d) false → d.site ≡ c.site → d.peer ≡ c.peer → d.proposed ≡ c.proposed
      → bytes_of acts ≡ spellings pdus
      → AllByRecursion IsControl pdus
      → ((limit : ℕ) → AreFit limit pdus)
      → d.pending ≡ None
      → Turns step (leaves_by d.pending moment.now acts d) s x u
      → Gone c s u x
  left_with acts d pdus off site peer proposed bytes control fits free h =
      let l = left_nothing step moment.now acts d s u x free h in (
        l.1,
        subst
            (λ (y : Effect). StaysOff c false y) (sym l.0)
            (off, site, peer, proposed, (pdus, bytes, control, fits)),
      )

  -- it aborts
  aborting : (source reason : ℕ) (a : Standing) (d : Core)
      → standing_of d.phase ≡ Some (moved a Sta13 moment.now)
      → a.requestor ≡ false → d.site ≡ c.site → d.peer ≡ c.peer → d.proposed ≡ c.proposed
      → d.pending ≡ None
      → Turns step (leaves_by d.pending moment.now (write (abort_pdu source reason ∷ []) ∷ []) d) s
      x u
      → Gone c s u x
  aborting source reason a d stands side site peer proposed free h = left_with
      (write (abort_pdu source reason ∷ []) ∷ []) d (abort_pdu source reason ∷ [])
      (refl, inr (inr (moved a Sta13 moment.now, stands, side, refl))) site peer proposed
      (append-nil (spellings (abort_pdu source reason ∷ []))) (tt, tt)
      (λ limit. abort_fits limit source reason) free h

  -- its connection is over
  closing : (acts : List LinkAction) (d : Core)
      → bytes_of acts ≡ []
      → standing_of d.phase ≡ None
      → d.site ≡ c.site → d.peer ≡ c.peer → d.proposed ≡ c.proposed → d.pending ≡ None
      → Turns step (leaves_by d.pending moment.now acts d) s x u
      → Gone c s u x
  closing acts d none gone site peer proposed free h =
      left_with acts d [] (refl, inl gone) site peer proposed none tt (λ limit. tt) free h

-- ---- what an acceptor answers

-- the first of the tests that fails, or none
abbrev chosen : Bool → Bool → Bool → Bool → Bool → Bool → Option Answer
chosen application version called stranger many small =
    if not application then Some (Reject 1 1 2)
    else if version then Some (Reject 1 2 2)
    else if not called then Some (Reject 1 1 7)
    else if stranger then Some (Reject 1 1 3)
    else if many then Some (Reject 2 3 2)
    else if small then Some TooSmall
    else None

abbrev Chooses : Bool → Option Answer → Type 0
Chooses stranger o =
    ((o ≡ None) × (stranger ≡ false))
    ⊎ ((o ≡ Some TooSmall)
    ⊎ ((result : ℕ) × (source : ℕ) × (reason : ℕ) × (o ≡ Some (Reject result source reason))))

choice : (application version called stranger many small : Bool)
    → Chooses stranger (chosen application version called stranger many small)
choice false version called stranger many small = inr (inr (1, 1, 2, refl))
choice true true called stranger many small = inr (inr (1, 2, 2, refl))
choice true false false stranger many small = inr (inr (1, 1, 7, refl))
choice true false true true many small = inr (inr (1, 1, 3, refl))
choice true false true false true small = inr (inr (2, 3, 2, refl))
choice true false true false false true = inr (inl refl)
choice true false true false false false = inl (refl, refl)

neither : (a b : Bool) → (a || b) ≡ false → a ≡ false
neither true b h = h
neither false b h = refl

-- it accepts by its rows a caller that isn't `-`, finds its limit too small, or rejects it
abbrev pub Answers : AssociateRq → Part → ℕ → Type 0
Answers rq site others =
    ((answer rq site others ≡ Accept (acceptance_of rq site) (agreed_by rq site))
    × (bytes_eq rq.front.calling local ≡ false))
    ⊎ ((answer rq site others ≡ TooSmall)
    ⊎ ((result : ℕ) × (source : ℕ) × (reason : ℕ)
    × (answer rq site others ≡ Reject result source reason)))

pub answers : (rq : AssociateRq) (site : Part) (others : ℕ) → Answers rq site others
answers rq site others = elim
    (choice (bytes_eq rq.application application_context) (rq.front.version % 2 == 0)
    (bytes_eq rq.front.called site.name) (is_stranger site.accepts rq.front.calling)
    (nat_le 256 others) (nat_le 1 rq.max_pdu && nat_le rq.max_pdu 7)) [
      | inl none ↦ inl (
        ap (λ (o : Option Answer). answer_by o rq site) none.0,
        neither (bytes_eq rq.front.calling local)
            (not (list_any (λ (r : AcceptRow). is_caller r.from rq.front.calling) site.accepts))
            none.1,
      )
      | inr (inl small) ↦ inr (inl (ap (λ (o : Option Answer). answer_by o rq site) small))
      | inr (inr refused) ↦ inr
          (inr (
            refused.0,
            refused.1,
            refused.2,
            ap (λ (o : Option Answer). answer_by o rq site) refused.3,
          ))
    ]

-- ---- an acceptor that awaits a request

module _ {S : Type 0} (step : S → DeskCall → DeskAnswer → S → Type 0) (moment : Moment) (c : Core)
    (s u : S) (x : Effect) (at : IsAt c false Sta2) (free : c.pending ≡ None) (site : Part)
    (has : c.site ≡ Some site) where
  abbrev pub Took : AssociateRq → Type 0
  Took rq =
      (bytes_eq rq.front.calling local ≡ false)
      × (x
      ≡ effect (write (pdu.AssociateAc (acceptance_of rq site) ∷ []) ∷ [])
      (accepted_core moment rq (agreed_by rq site) at.0 c))
      × (u ≡ s)

  abbrev pub Refused : Type 0
  Refused =
      (a : AssociateRj) × (d : Core)
      × (x ≡ effect (write (pdu.AssociateRj a ∷ []) ∷ []) d)
      × IsOff d false × (d.site ≡ c.site) × (u ≡ s)

  abbrev pub Awaited : Input → Type 0
  Awaited i =
      Gone c s u x
      ⊎ (((x ≡ effect [] c) × (u ≡ s))
      ⊎ ((rq : AssociateRq) × (i ≡ input.Request rq) × (Took rq ⊎ Refused)))

  abbrev deciding : State → Core
  deciding state = record c { phase = in_its_phase (moved at.0 state moment.now) }

  -- one that is rejected, by the service provider or by its user
  refused_by : (rq : AssociateRq) (result source reason : ℕ)
      → answer rq site moment.others ≡ Reject result source reason
      → (acceptable : Bool)
      → (source == 1) ≡ acceptable
      → Turns step (turn moment c (Plain (input.Request rq))) s x u
      → Refused
  refused_by rq result source reason e true is h =
      let t = decided step moment c site has rq at s u x h (deciding Sta3)
      (Reject result source reason) e
      (by_cell step moment c site has rq at s u x h true (ap is_acceptable e ∙ is)) in (
        rj result source reason,
        rejected (rj result source reason) (stepped_by RejectResponse moment.now (deciding Sta3)),
        t.0,
        (free, inr (inr (moved (moved at.0 Sta3 moment.now) Sta13 moment.now, refl, at.2, refl))),
        refl,
        t.1,
      )
  refused_by rq result source reason e false is h =
      let t = decided step moment c site has rq at s u x h (deciding Sta13)
      (Reject result source reason) e
      (by_cell step moment c site has rq at s u x h false (ap is_acceptable e ∙ is)) in (
        rj result source reason,
        rejected (rj result source reason) (stepped_by RejectResponse moment.now (deciding Sta13)),
        t.0,
        (free, inr (inr (moved at.0 Sta13 moment.now, refl, at.2, refl))),
        refl,
        t.1,
      )

  -- one whose limit is too small: it aborts
  too_small : (rq : AssociateRq)
      → answer rq site moment.others ≡ TooSmall
      → Turns step (turn moment c (Plain (input.Request rq))) s x u
      → Gone c s u x
  too_small rq e h =
      let t = decided step moment c site has rq at s u x h (deciding Sta3) TooSmall e
      (by_cell step moment c site has rq at s u x h true (ap is_acceptable e)) in
      aborting step moment c s u x 0 0 (moved at.0 Sta3 moment.now)
      (aborted (stepped_by AbortRequest moment.now (deciding Sta3))) refl at.2 refl refl refl free t

  requested_by : (rq : AssociateRq)
      → Turns step (turn moment c (Plain (input.Request rq))) s x u
      → Awaited (input.Request rq)
  requested_by rq h = elim (answers rq site moment.others) [
    | inl a ↦
        (let t = accept_turns step moment c site has rq at s u x h (acceptance_of rq site)
        (agreed_by rq site) a.0 in
        inr (inr (rq, refl, inl (a.1, t.0, t.1))))
    | inr (inl small) ↦ inl (too_small rq small h)
    | inr (inr r) ↦ inr (inr (rq, refl, inr (refused_by rq r.0 r.1 r.2 r.3 (r.1 == 1) refl h)))
  ]

  -- all else that is heard, or told to it
  out_of_place : (i : Input) (e : UpperEvent)
      → event_of (Plain i) moment c ≡ Some e
      → cell e Sta2 false (is_taken (Plain i) moment c) ≡ Some (Aa1, Sta13)
      → Turns step (turn moment c (Plain i)) s x u
      → Awaited i
  out_of_place i e event is h = inl
      (aborting step moment c s u x 0 0 at.0 (aborted (deciding Sta13)) refl at.2 refl refl refl
      free (acts_as step moment c s u x (Plain i) e false Sta2 Aa1 Sta13 at event is h))

  never_waits : (is_requestor c && has_waited c.awaits moment.now) ≡ false
  never_waits = ap (λ (b : Bool). b && has_waited c.awaits moment.now) (side_is c false Sta2 at)

  abbrev late_event : Bool → Bool → Option UpperEvent
  late_event expired waited =
      if expired then Some ArtimExpired else if waited then Some AbortRequest else None

  late : (expired : Bool)
      → next_expired c.phase moment.now ≡ expired
      → Turns step (turn moment c (Plain input.Late)) s x u
      → Awaited input.Late
  late true e h =
      let event : event_of (Plain input.Late) moment c ≡ Some ArtimExpired =
      ap (λ (b : Bool). late_event b (is_requestor c && has_waited c.awaits moment.now)) e in
      inl
      (closing step moment c s u x (Close ∷ []) (deciding Sta1) refl refl refl refl refl free
      (acts_as step moment c s u x (Plain input.Late) ArtimExpired false Sta2 Aa2 Sta1 at event refl
      h))
  late false e h =
      let event : event_of (Plain input.Late) moment c ≡ None =
      ap (λ (b : Bool). late_event b (is_requestor c && has_waited c.awaits moment.now)) e
      ∙ ap (λ (b : Bool). late_event false b) never_waits in
      inr (inl (no_event step moment c s u x (Plain input.Late) event h))

  idle_not : is_idle c ≡ false
  idle_not = ap (λ (b : Bool). b && not (is_some c.pending)) (side_is c false Sta2 at)

  awaits : (i : Input) → Turns step (turn moment c (Plain i)) s x u → Awaited i
  awaits (input.Request rq) h = requested_by rq h
  awaits (input.Acceptance ac) h = out_of_place (input.Acceptance ac) AssociateAcPdu refl refl h
  awaits (input.Rejection a) h = out_of_place (input.Rejection a) AssociateRjPdu refl refl h
  awaits (input.Value p) h = out_of_place (input.Value p) DataPdu refl refl h
  awaits input.NoValue h = out_of_place input.NoValue DataPdu refl refl h
  awaits input.ReleaseRq h = out_of_place input.ReleaseRq ReleaseRqPdu refl refl h
  awaits input.ReleaseRp h = out_of_place input.ReleaseRp ReleaseRpPdu refl refl h
  awaits (input.Abort a) h = inl
      (closing step moment c s u x (Close ∷ []) (aborted (deciding Sta1)) refl refl refl refl refl
      free
      (acts_as step moment c s u x (Plain (input.Abort a)) AbortPdu false Sta2 Aa2 Sta1 at refl refl
      h))
  awaits input.Unknown h = out_of_place input.Unknown InvalidPdu refl refl h
  awaits input.Invalid h = out_of_place input.Invalid InvalidPdu refl refl h
  awaits input.Ended h = inl
      (closing step moment c s u x [] (deciding Sta1) refl refl refl refl refl free
      (acts_as step moment c s u x (Plain input.Ended) TransportClosed false Sta2 Aa5 Sta1 at refl
      refl h))
  awaits input.Late h = late (next_expired c.phase moment.now) refl h
  awaits input.AbortAsked h = inr
      (inl
      (no_cell step moment c s u x (Plain input.AbortAsked) AbortRequest false Sta2 at refl refl h))
  awaits input.ReleaseAsked h = inr
      (inl
      (no_event step moment c s u x (Plain input.ReleaseAsked)
      (ap
      (λ (b : Bool). if b
      then Some Rattle.dr_ulstate.specs.declared.table.Event.TheVariants.ReleaseRequest
      else None) idle_not) h))
  awaits input.PushAsked h = inr
      (inl
      (no_event step moment c s u x (Plain input.PushAsked)
      (ap
      (λ (b : Bool). if b && may_send c.phase
      then Some Rattle.dr_ulstate.specs.declared.table.Event.TheVariants.DataRequest
      else None) idle_not) h))

  -- nothing is looked into before there is an association
  tells_plain : (i : Input) (told : Told) (stage : Taken)
      → Tells c i told stage
      → (told ≡ Plain i) × (stage ≡ c.assembly.stage)
  tells_plain (input.Value p) told stage h = subst
      (λ (z : State). Looks (action_of DataPdu z) c (input.Value p) told stage)
      (state_is c false Sta2 at) h
  tells_plain (input.Acceptance ac) told stage h = subst
      (λ (z : State). Looks (action_of AssociateAcPdu z) c (input.Acceptance ac) told stage)
      (state_is c false Sta2 at) h
  tells_plain (input.Request a) told stage h = h
  tells_plain (input.Rejection a) told stage h = h
  tells_plain input.NoValue told stage h = h
  tells_plain input.ReleaseRq told stage h = h
  tells_plain input.ReleaseRp told stage h = h
  tells_plain (input.Abort a) told stage h = h
  tells_plain input.Unknown told stage h = h
  tells_plain input.Invalid told stage h = h
  tells_plain input.Ended told stage h = h
  tells_plain input.Late told stage h = h
  tells_plain input.AbortAsked told stage h = h
  tells_plain input.ReleaseAsked told stage h = h
  tells_plain input.PushAsked told stage h = h

  pub awaited : (i : Input) → Reacts step c (at_moment moment i) s x u → Awaited i
  awaited i r = awaits i (as_plain step moment c s u x i r (tells_plain i r.told r.stage r.tells))

  -- a request that it accepts
  pub accepts : (rq : AssociateRq)
      → answer rq site moment.others ≡ Accept (acceptance_of rq site) (agreed_by rq site)
      → Reacts step c (at_moment moment (input.Request rq)) s x u
      → Took rq
  accepts rq e r =
      let h = as_plain step moment c s u x (input.Request rq) r
      (tells_plain (input.Request rq) r.told r.stage r.tells) in
      let t = accept_turns step moment c site has rq at s u x h (acceptance_of rq site)
      (agreed_by rq site) e in
      elim (answers rq site moment.others) [
        | inl a ↦ (a.1, t.0, t.1)
        | inr (inl small) ↦
            (let f : Accept (acceptance_of rq site) (agreed_by rq site) ≡ TooSmall =
            sym e ∙ small in
            absurd (cc f))
        | inr (inr a) ↦
            (let f : Accept (acceptance_of rq site) (agreed_by rq site) ≡ Reject a.0 a.1 a.2 =
            sym e ∙ a.3 in
            absurd (cc f))
      ]

-- ---- an acceptor with an association

-- the end stays established, with what it agreed on
abbrev pub Stays : Core → Core → Type 0
Stays c d =
    IsAt d false Sta6 × (d.agreed ≡ c.agreed) × (d.peer ≡ c.peer) × (d.pending ≡ c.pending)
    × (d.assembly.awaited ≡ c.assembly.awaited)
    × (d.site ≡ c.site)

-- the item's class and transfer syntax are those of an agreed context
pub record IsAgreedOn (has : Option Agreed) (item : Job) : Type 0 where
  pub agreed : Agreed
  pub is : has ≡ Some agreed
  pub context : Pair
  pub among : Contains agreed.pairs context
  pub class : context.class ≡ item.key.class
  pub syntax : context.syntax ≡ syntax_uid item.key.syntax

-- it stays, and writes nothing that says that a store succeeded
abbrev pub Kept : {S : Type 0} → Core → S → S → Effect → Type 0
Kept c s u x =
    (d : Core) × (acts : List LinkAction) × (x ≡ effect acts d) × (u ≡ s) × Stays c d
    × Writes Nothing acts

-- it brings an item to its desk, and writes its answer
abbrev pub Brings : {S : Type 0}
    → (S → DeskCall → DeskAnswer → S → Type 0)
    → Core → S → S → Effect → Type 0
Brings step c s u x =
    (d : Core) × (item : Job) × (reply : Reply) × (context : ℕ) × (id : ℕ)
    × step s (Arrive c.peer item) (Arrival reply) u
    × (x ≡ stored d context id item.key.class item.uid (store_status reply))
    × Stays c d × IsAgreedOn c.agreed item

abbrev pub Served : {S : Type 0}
    → (S → DeskCall → DeskAnswer → S → Type 0)
    → Core → S → S → Effect → Type 0
Served step c s u x = Gone c s u x ⊎ (Kept c s u x ⊎ Brings step c s u x)

-- what was told of a value, in an agreed context
abbrev IsOfValue : Option Agreed → Told → Type 0
IsOfValue has (Store context of id class instance found) =
    (agreed : Agreed) × (has ≡ Some agreed) × (x : Pair) × Contains agreed.pairs x × (of ≡ x.class)
    × (b : Body) × FindsIn x.syntax b found
IsOfValue has Quiet = Unit {0}
IsOfValue has Fault = Unit {0}
IsOfValue has Strange = Unit {0}
IsOfValue has (Whole context of command) = Unit {0}
IsOfValue has (Plain i) = ⊥
IsOfValue has (Agreement answer) = ⊥

module _ (c : Core) (p : Pdv) (told : Told) (stage : Taken) where
  as_told : (t : Told) → told ≡ t → IsOfValue c.agreed t → IsOfValue c.agreed told
  as_told t e h = subst (λ (y : Told). IsOfValue c.agreed y) (sym e) h

  said : (agreed : Agreed) → c.agreed ≡ Some agreed → (x : Pair) → Contains agreed.pairs x
      → (id : ℕ) (b : Option Body) (command : Command)
      → SaysOf x id b command told
      → IsOfValue c.agreed told
  said agreed has x among id (Some b) (StoreRq n class instance) h =
      as_told (Store id x.class n class instance h.0) h.2 (agreed, has, x, among, refl, b, h.1)
  said agreed has x among id None (StoreRq n class instance) h =
      as_told (Whole id x.class (StoreRq n class instance)) h tt
  said agreed has x among id (Some b) (StoreRsp n status class instance has_data) h =
      as_told (Whole id x.class (StoreRsp n status class instance has_data)) h tt
  said agreed has x among id None (StoreRsp n status class instance has_data) h =
      as_told (Whole id x.class (StoreRsp n status class instance has_data)) h tt
  said agreed has x among id (Some b) (EchoRq n class has_data) h =
      as_told (Whole id x.class (EchoRq n class has_data)) h tt
  said agreed has x among id None (EchoRq n class has_data) h =
      as_told (Whole id x.class (EchoRq n class has_data)) h tt
  said agreed has x among id (Some b) (EchoRsp n status class has_data) h =
      as_told (Whole id x.class (EchoRsp n status class has_data)) h tt
  said agreed has x among id None (EchoRsp n status class has_data) h =
      as_told (Whole id x.class (EchoRsp n status class has_data)) h tt
  said agreed has x among id (Some b) (Other field n status has_data) h =
      as_told (Whole id x.class (Other field n status has_data)) h tt
  said agreed has x among id None (Other field n status has_data) h =
      as_told (Whole id x.class (Other field n status has_data)) h tt

  by_says : (agreed : Agreed) → c.agreed ≡ Some agreed → (x : Pair) → Contains agreed.pairs x
      → (a : Result (Option Message) DimseFault)
      → Says x a told → IsOfValue c.agreed told
  by_says agreed has x among (Ok None) h = as_told Quiet h tt
  by_says agreed has x among (Ok (Some m)) h = said agreed has x among m.id m.body m.command h
  by_says agreed has x among (Err dimse.MixedContext) h = as_told Fault h tt
  by_says agreed has x among (Err dimse.OutOfPlace) h = as_told Fault h tt
  by_says agreed has x among (Err dimse.TooLong) h = as_told Fault h tt
  by_says agreed has x among (Err dimse.BadCommand) h = as_told Fault h tt
  by_says agreed has x among (Err dimse.Memory) h = absurd h

  by_pair : (agreed : Agreed) → c.agreed ≡ Some agreed → (o : Option Pair) → pair_at agreed p.id ≡ o
      → TellsIn o c p told stage → IsOfValue c.agreed told
  by_pair agreed has None e h = as_told Strange h.0 tt
  by_pair agreed has (Some x) e h =
      by_says agreed has x (found_is (is_id p.id) agreed.pairs x e).1 h.0 h.2

  of_value : (o : Option Agreed) → c.agreed ≡ o
      → TellsValue o c p told stage
      → IsOfValue c.agreed told
  of_value None e h = as_told Strange h.0 tt
  of_value (Some agreed) e h = by_pair agreed e (pair_at agreed p.id) refl h

-- a data set that was read has the context's transfer syntax
abbrev found_item : Job → Found → Job
found_item item (Read other) = other
found_item item Unreadable = item
found_item item Nameless = item
found_item item TooLarge = item

read_in : (syntax : Text) (b : Body) (item : Job)
    → FindsIn syntax b (Read item)
    → syntax ≡ syntax_uid item.key.syntax
read_in syntax (body.Whole text) item (inl (s, Ok other, uid, reads, finds)) =
    let same : other ≡ item = ap (found_item item) (sym finds) in
    uid ∙ ap syntax_uid (sym reads.1 ∙ ap (λ (j : Job). j.key.syntax) same)
read_in syntax (body.Whole text) item (inl (s, Err items.Data, uid, reads, finds)) =
    (let e : Read item ≡ Unreadable = finds in absurd (cc e))
read_in syntax (body.Whole text) item (inl (s, Err items.NoUid, uid, reads, finds)) =
    (let e : Read item ≡ Nameless = finds in absurd (cc e))
read_in syntax (body.Whole text) item (inl (s, Err items.TooLarge, uid, reads, finds)) =
    (let e : Read item ≡ TooLarge = finds in absurd (cc e))
read_in syntax (body.Whole text) item (inl (s, Err items.Memory, uid, reads, finds)) = absurd finds
read_in syntax (body.Whole text) item (inr (none, e)) =
    (let f : Read item ≡ Unreadable = e in absurd (cc f))
read_in syntax body.TooLarge item e = (let f : Read item ≡ TooLarge = e in absurd (cc f))

pub both_hold : (a b : Bool) → (a && b) ≡ true → (a ≡ true) × (b ≡ true)
both_hold true b h = (refl, h)
both_hold false b h = absurd (false≢true h)

module _ {S : Type 0} (step : S → DeskCall → DeskAnswer → S → Type 0) (moment : Moment) (c : Core)
    (s u : S) (x : Effect) (at : IsAt c false Sta6) (free : c.pending ≡ None) where
  abbrev there : State → Core
  there state = record c { phase = in_its_phase (moved at.0 state moment.now) }

  as_it_was : Stays c c
  as_it_was = (at, refl, refl, refl, refl, refl)

  still : Stays c (there Sta6)
  still = ((moved at.0 Sta6 moment.now, refl, at.2, refl), refl, refl, refl, refl, refl)

  writes_none : Writes Nothing []
  writes_none = inl ([], refl, tt)

  unchanged : (x ≡ effect [] c) × (u ≡ s) → Served step c s u x
  unchanged h = inr (inl (c, [], h.0, h.1, as_it_was, writes_none))

  quiet_there : (x ≡ effect [] (there Sta6)) × (u ≡ s) → Served step c s u x
  quiet_there h = inr (inl (there Sta6, [], h.0, h.1, still, writes_none))

  says_there : (id : ℕ) (command : Command)
      → IsNoSuccess command
      → (x ≡ effect (says (there Sta6) id command ∷ []) (there Sta6)) × (u ≡ s)
      → Served step c s u x
  says_there id command none h = inr
      (inl (
        there Sta6,
        says (there Sta6) id command ∷ [],
        h.0,
        h.1,
        still,
        inr (option_map_or (λ (a : Agreed). a.limit) c.agreed 0, id, command, none, refl),
      ))

  -- the service provider aborts
  provider : (told : Told) (e : UpperEvent)
      → event_of told moment c ≡ Some e
      → cell e Sta6 false (is_taken told moment c) ≡ Some (Aa8, Sta13)
      → Turns step (turn moment c told) s x u
      → Served step c s u x
  provider told e event is h = inl
      (aborting step moment c s u x 2 (reason_of told) at.0 (aborted (there Sta13)) refl at.2 refl
      refl refl free (acts_as step moment c s u x told e false Sta6 Aa8 Sta13 at event is h))

  hears_data : (told : Told)
      → event_of told moment c ≡ Some DataPdu
      → is_taken told moment c ≡ true
      → Turns step (turn moment c told) s x u
      → Turns step (Rattle.dr_session.specs.Reactions.hears told moment (there Sta6)) s x u
  hears_data told event taken h =
      acts_as step moment c s u x told DataPdu false Sta6 Dt2 Sta6 at event refl h

  -- ---- a store

  by_desk : (context id : ℕ) (class instance : Text) (item : Job)
      → item.key.class ≡ class → item.uid ≡ instance → IsAgreedOn c.agreed item
      → (a : DeskAnswer) (m : S)
      → step s (Arrive c.peer item) a m
      → Turns step
      (arrival (λ r. Ends (stored (there Sta6) context id class instance (store_status r))) a) m x u
      → Served step c s u x
  by_desk context id class instance item classes uids agreed (Arrival reply) m one (e, same) =
      inr (inr (
        there Sta6,
        item,
        reply,
        context,
        id,
        subst (λ (d : S). step s (Arrive c.peer item) (Arrival reply) d) (sym same) one,
        e
            ∙ (ap
            (λ (t : Text). stored (there Sta6) context id t instance (store_status reply))
            (sym classes)
            ∙ ap
            (λ (t : Text). stored (there Sta6) context id item.key.class t (store_status reply))
            (sym uids)),
        still,
        agreed,
      ))
  by_desk context id class instance item classes uids agreed (Upcoming d) m one h = absurd h
  by_desk context id class instance item classes uids agreed (First d) m one h = absurd h
  by_desk context id class instance item classes uids agreed (Settling a) m one h = absurd h

  by_name : (context id : ℕ) (class instance : Text) (item : Job)
      → (class ≡ item.key.class → IsAgreedOn c.agreed item)
      → (b : Bool)
      → is_named item class instance ≡ b
      → Turns step
      (if b
      then Asks (Arrive c.peer item)
      (arrival (λ r. Ends (stored (there Sta6) context id class instance (store_status r))))
      else Ends (stored (there Sta6) context id class instance 0xA900)) s x u
      → Served step c s u x
  by_name context id class instance item agreed true e h =
      let names = both_hold (bytes_eq item.uid instance) (bytes_eq item.key.class class) e in
      let classes : item.key.class ≡ class = (bytes_eq-Decides item.key.class class).0 names.1 in
      by_desk context id class instance item classes
      ((bytes_eq-Decides item.uid instance).0 names.0) (agreed (sym classes)) h.0 h.1 h.2 h.3
  by_name context id class instance item agreed false e h =
      says_there context (StoreRsp id 0xA900 class instance false) (λ e. omega (arith, e)) h

  by_found : (context id : ℕ) (class instance : Text) (found : Found)
      → ((item : Job) → found ≡ Read item → class ≡ item.key.class → IsAgreedOn c.agreed item)
      → Turns step (arrives (there Sta6) context id class instance found) s x u
      → Served step c s u x
  by_found context id class instance TooLarge agreed h =
      says_there context (StoreRsp id 0xA700 class instance false) (λ e. omega (arith, e)) h
  by_found context id class instance Unreadable agreed h =
      says_there context (StoreRsp id 0xC000 class instance false) (λ e. omega (arith, e)) h
  by_found context id class instance Nameless agreed h =
      says_there context (StoreRsp id 0xA900 class instance false) (λ e. omega (arith, e)) h
  by_found context id class instance (Read item) agreed h = by_name context id class instance item
      (λ e. agreed item refl e) (is_named item class instance) refl h

  stores_in : (context : ℕ) (of : Text) (id : ℕ) (class instance : Text) (found : Found)
      → IsOfValue c.agreed (Store context of id class instance found)
      → (b : Bool) → bytes_eq class of ≡ b
      → Turns step
      (if b
      then arrives (there Sta6) context id class instance found
      else Ends (stored (there Sta6) context id class instance 0x0122)) s x u
      → Served step c s u x
  stores_in context of id class instance found is false e h =
      says_there context (StoreRsp id 0x0122 class instance false) (λ e. omega (arith, e)) h
  stores_in context of id class instance found (agreed, has, pair, among, of_is, b, finds) true e
      h = by_found context id class instance found (λ item read classes. record {
        agreed = agreed;
        is = has;
        context = pair;
        among = among;
        class = sym of_is ∙ (sym ((bytes_eq-Decides class of).0 e) ∙ classes);
        syntax =
            read_in pair.syntax b item (subst (λ (f : Found). FindsIn pair.syntax b f) read finds);
      }) h

  -- ---- another request

  asked : (context : ℕ) (of : Text) (command : Command)
      → Turns step (requested (there Sta6) context of command) s x u
      → Served step c s u x
  asked context of (StoreRq id class instance) h = quiet_there h
  asked context of (StoreRsp id status class instance has_data) h = quiet_there h
  asked context of (EchoRq id class has_data) h = says_there context
      (EchoRsp id (Rattle.dr_session.specs.Reactions.echo_status class of) class false) tt h
  asked context of (EchoRsp id status class has_data) h = quiet_there h
  asked context of (Other field None status has_data) h = quiet_there h
  asked context of (Other field (Some id) (Some status) has_data) h = quiet_there h
  asked context of (Other field (Some id) None has_data) h =
      says_there context (Other (0x8000 + field) (Some id) (Some 0x0211) false) tt h

  -- ---- all that is told of a value

  valued : (told : Told) → IsOfValue c.agreed told
      → Turns step (turn moment c told) s x u
      → Served step c s u x
  valued Quiet is h = quiet_there (hears_data Quiet refl refl h)
  valued Fault is h = inl
      (aborting step moment c s u x 0 0 (moved at.0 Sta6 moment.now)
      (aborted (stepped_by AbortRequest moment.now (there Sta6))) refl at.2 refl refl refl free
      (hears_data Fault refl refl h))
  valued Strange is h = provider Strange InvalidPdu refl refl h
  valued (Store context of id class instance found) is h = stores_in context of id class instance
      found is (bytes_eq class of) refl
      (hears_data (Store context of id class instance found) refl refl h)
  valued (Whole context of command) is h = asked context of command
      (subst
      (λ (b : Bool). Turns step
      (if b
      then replied c.pending context command moment (there Sta6)
      else requested (there Sta6) context of command) s x u) at.2
      (hears_data (Whole context of command) refl refl h))
  valued (Plain i) is h = absurd is
  valued (Agreement answer) is h = absurd is

  -- ---- all that is told as it came

  abbrev late_as : Bool → Bool → Option UpperEvent
  late_as expired waited =
      if expired then Some ArtimExpired else if waited then Some AbortRequest else None

  never_late : event_of (Plain input.Late) moment c ≡ None
  never_late =
      let expired : next_expired c.phase moment.now ≡ false =
      ap
      (λ (o : Option Standing). option_map_or (λ (a : Standing). has_expired a moment.now) o false)
      at.1 ∙ ap (λ (st : State). runs_artim st && nat_le (at.0.since + 30000) moment.now) at.3 in
      let waited : (is_requestor c && has_waited c.awaits moment.now) ≡ false =
      ap (λ (b : Bool). b && has_waited c.awaits moment.now) (side_is c false Sta6 at) in
      ap (λ (b : Bool). late_as b (is_requestor c && has_waited c.awaits moment.now)) expired
      ∙ ap (λ (b : Bool). late_as false b) waited

  never_idle : is_idle c ≡ false
  never_idle = ap (λ (b : Bool). b && not (is_some c.pending)) (side_is c false Sta6 at)

  plain : (i : Input) → Turns step (turn moment c (Plain i)) s x u → Served step c s u x
  plain (input.Request rq) h = provider (Plain (input.Request rq)) AssociateRqPdu refl refl h
  plain (input.Acceptance ac) h = provider (Plain (input.Acceptance ac)) AssociateAcPdu refl refl h
  plain (input.Rejection a) h = provider (Plain (input.Rejection a)) AssociateRjPdu refl refl h
  plain (input.Value p) h = quiet_there (hears_data (Plain (input.Value p)) refl refl h)
  plain input.NoValue h = quiet_there (hears_data (Plain input.NoValue) refl refl h)
  plain input.ReleaseRq h = inl
      (left_with step moment c s u x (write (pdu.ReleaseRp ∷ []) ∷ [])
      (released (stepped_by ReleaseResponse moment.now (there Sta8))) (pdu.ReleaseRp ∷ [])
      (refl, inr (inr (moved (moved at.0 Sta8 moment.now) Sta13 moment.now, refl, at.2, refl))) refl
      refl refl (append-nil (spellings (pdu.ReleaseRp ∷ []))) (tt, tt) close_fits free
      (acts_as step moment c s u x (Plain input.ReleaseRq) ReleaseRqPdu false Sta6 Ar2 Sta8 at refl
      refl h))
  plain input.ReleaseRp h = provider (Plain input.ReleaseRp) ReleaseRpPdu refl refl h
  plain (input.Abort a) h = inl
      (closing step moment c s u x (Close ∷ []) (aborted (there Sta1)) refl refl refl refl refl free
      (acts_as step moment c s u x (Plain (input.Abort a)) AbortPdu false Sta6 Aa3 Sta1 at refl refl
      h))
  plain input.Unknown h = provider (Plain input.Unknown) InvalidPdu refl refl h
  plain input.Invalid h = provider (Plain input.Invalid) InvalidPdu refl refl h
  plain input.Ended h = inl
      (closing step moment c s u x [] (there Sta1) refl refl refl refl refl free
      (acts_as step moment c s u x (Plain input.Ended) TransportClosed false Sta6 Aa4 Sta1 at refl
      refl h))
  plain input.Late h = unchanged (no_event step moment c s u x (Plain input.Late) never_late h)
  plain input.AbortAsked h = inl
      (aborting step moment c s u x 0 0 at.0 (aborted (there Sta13)) refl at.2 refl refl refl free
      (acts_as step moment c s u x (Plain input.AbortAsked) AbortRequest false Sta6 Aa1 Sta13 at
      refl refl h))
  plain input.ReleaseAsked h = unchanged
      (no_event step moment c s u x (Plain input.ReleaseAsked)
      (ap
      (λ (b : Bool). if b
      then Some Rattle.dr_ulstate.specs.declared.table.Event.TheVariants.ReleaseRequest
      else None) never_idle) h)
  plain input.PushAsked h = unchanged
      (no_event step moment c s u x (Plain input.PushAsked)
      (ap
      (λ (b : Bool). if b && may_send c.phase
      then Some Rattle.dr_ulstate.specs.declared.table.Event.TheVariants.DataRequest
      else None) never_idle) h)

module _ {S : Type 0} (step : S → DeskCall → DeskAnswer → S → Type 0) (moment : Moment) (c : Core)
    (s u : S) (x : Effect) (at : IsAt c false Sta6) (free : c.pending ≡ None) where
  by_plain : (i : Input)
      → (r : Reacts step c (at_moment moment i) s x u)
      → (r.told ≡ Plain i) × (r.stage ≡ c.assembly.stage)
      → Served step c s u x
  by_plain i r is = plain step moment c s u x at free i (as_plain step moment c s u x i r is)

  pub served : (i : Input) → Reacts step c (at_moment moment i) s x u → Served step c s u x
  served (input.Value p) r =
      let looks : TellsValue c.agreed c p r.told r.stage = subst
      (λ (z : State). Looks (action_of DataPdu z) c (input.Value p) r.told r.stage)
      (state_is c false Sta6 at) r.tells in
      valued step moment (with_stage r.stage c) s u x at free r.told
      (of_value c p r.told r.stage c.agreed refl looks) r.turns
  served (input.Acceptance ac) r = by_plain (input.Acceptance ac) r
      (subst
      (λ (z : State). Looks (action_of AssociateAcPdu z) c (input.Acceptance ac) r.told r.stage)
      (state_is c false Sta6 at) r.tells)
  served (input.Request a) r = by_plain (input.Request a) r r.tells
  served (input.Rejection a) r = by_plain (input.Rejection a) r r.tells
  served input.NoValue r = by_plain input.NoValue r r.tells
  served input.ReleaseRq r = by_plain input.ReleaseRq r r.tells
  served input.ReleaseRp r = by_plain input.ReleaseRp r r.tells
  served (input.Abort a) r = by_plain (input.Abort a) r r.tells
  served input.Unknown r = by_plain input.Unknown r r.tells
  served input.Invalid r = by_plain input.Invalid r r.tells
  served input.Ended r = by_plain input.Ended r r.tells
  served input.Late r = by_plain input.Late r r.tells
  served input.AbortAsked r = by_plain input.AbortAsked r r.tells
  served input.ReleaseAsked r = by_plain input.ReleaseAsked r r.tells
  served input.PushAsked r = by_plain input.PushAsked r r.tells
