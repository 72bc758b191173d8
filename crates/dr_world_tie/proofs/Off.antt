-- An end that is off stays off.
use Rattle.std.proofs.Common.{◌≡◌, ℕ, Bool, true, List, [], ◌∷◌, Option, Some, None, Result, Ok, Err, refl, sym, ap, subst, ◌∙◌, inl, inr, ◌⊎◌}
use Rattle.std.specs.List.{AllByRecursion}
use Rattle.std.specs.Prelude.{if◌then◌else◌}
use Rattle.std.specs.Option.{option_map_or}
use Rattle.std.proofs.lemmas.List.{append-nil}
use Rattle.dr_ulstate.specs.declared.table.Action.{Action}
use Rattle.dr_ulstate.specs.declared.table.Event.{Event as UpperEvent}
use Rattle.dr_ulstate.specs.declared.table.Event.TheVariants.{AssociateRequest, TransportConfirm, AssociateAcPdu, AssociateRjPdu, TransportIndication, AssociateRqPdu, AcceptResponse, RejectResponse, DataRequest, DataPdu, ReleaseRequest, ReleaseRqPdu, ReleaseRpPdu, ReleaseResponse, AbortRequest, AbortPdu, TransportClosed, ArtimExpired, InvalidPdu}
use Rattle.dr_ulstate.specs.declared.table.State.{State}
use Rattle.dr_ulstate.specs.declared.table.State.TheVariants.{Sta1, Sta7, Sta9, Sta11, Sta13}
use Rattle.dr_ulstate.specs.declared.phase.Next.{Next}
use Rattle.dr_ulstate.specs.declared.phase.Next.TheVariants.{Idle as IdlePhase}
use Rattle.dr_ulstate.specs.Table.{cell, action_of}
use Rattle.dr_ulstate.specs.Standing.{Standing, moved}
use Rattle.dr_ulstate.specs.Phases.{standing_of, state_of, next_stepped, stepped_from, after_cell, in_its_phase}
use Rattle.dr_pdu.specs.declared.pdu.Pdu.{Pdu}
use Rattle.dr_pdu.specs.declared.pdu.Pdu.TheVariants as pdu
use Rattle.dr_pdu.specs.declared.pdu.Pdv.{Pdv}
use Rattle.dr_dimse.specs.declared.message.Awaited.{Awaited}
use Rattle.dr_dimse.specs.declared.message.Awaited.TheVariants.{Nothing}
use Rattle.dr_dimse.specs.declared.message.Message.{Message}
use Rattle.dr_dimse.specs.declared.fault.DimseFault.{DimseFault}
use Rattle.dr_dimse.specs.declared.fault.DimseFault.TheVariants as dimse
use Rattle.dr_dimse.specs.Taking.{MessageStage as Taken, Idle, InCommand, InData, TakesValue, data_of}
use Rattle.dr_nego.specs.Fragments.{spellings}
use Rattle.dr_nego.specs.declared.agreed.Agreed.{Agreed}
use Rattle.dr_nego.specs.declared.agreed.Pair.{Pair}
use Rattle.dr_nego.specs.Agreeing.{pair_at}
use Rattle.dr_session.specs.declared.ends.Core.{Core}
use Rattle.dr_session.specs.declared.ends.Effect.{Effect}
use Rattle.dr_session.specs.declared.ends.Input.{Input}
use Rattle.dr_session.specs.declared.ends.Input.TheVariants as input
use Rattle.dr_session.specs.declared.ends.LinkAction.{LinkAction}
use Rattle.dr_session.specs.declared.ends.LinkAction.TheVariants.{Close}
use Rattle.dr_session.specs.declared.ends.Moment.{Moment}
use Rattle.dr_session.specs.declared.ends.Told.{Told}
use Rattle.dr_session.specs.declared.ends.Told.TheVariants.{Plain, Quiet, Fault, Strange, Store, Whole, Agreement}
use Rattle.dr_session.specs.Desks.{DeskCall, DeskAnswer}
use Rattle.dr_session.specs.Reactions.{Reaction, turn, occurs, moves, event_of, is_taken, is_requestor, left, aborted, released, noted, collides, stepped_by, effect, write, abort_pdu, reason_of}
use Rattle.dr_session.specs.Telling.{Looks, Tells, TellsValue, TellsIn, Says}
use Rattle.dr_session.specs.Turns.{Turns, Ends}
use Rattle.dr_session.specs.Plays.{with_stage}
use Rattle.dr_world_tie.specs.Channels.{IsAt, IsOff, IsControl, bytes_of}
use Rattle.dr_world_tie.specs.Ties.{StaysOff, OffStaysOff}
use Rattle.dr_world_tie.proofs.Agreeing.{stepped_at}
use Rattle.dr_world_tie.proofs.Leaving.{AreFit, left_nothing, abort_fits}
use Rattle.dr_world_tie.proofs.Controls.{close_fits}

noted_is : (told : Told) (c : Core) → (noted told c ≡ c) ⊎ (noted told c ≡ aborted c)
noted_is (Plain (input.Abort a)) c = inr refl
noted_is (Plain (input.Request a)) c = inl refl
noted_is (Plain (input.Acceptance a)) c = inl refl
noted_is (Plain (input.Rejection a)) c = inl refl
noted_is (Plain (input.Value a)) c = inl refl
noted_is (Plain input.NoValue) c = inl refl
noted_is (Plain input.ReleaseRq) c = inl refl
noted_is (Plain input.ReleaseRp) c = inl refl
noted_is (Plain input.Unknown) c = inl refl
noted_is (Plain input.Invalid) c = inl refl
noted_is (Plain input.Ended) c = inl refl
noted_is (Plain input.Late) c = inl refl
noted_is (Plain input.AbortAsked) c = inl refl
noted_is (Plain input.ReleaseAsked) c = inl refl
noted_is (Plain input.PushAsked) c = inl refl
noted_is Quiet c = inl refl
noted_is Fault c = inl refl
noted_is Strange c = inl refl
noted_is (Store context of id class instance found) c = inl refl
noted_is (Whole context of command) c = inl refl
noted_is (Agreement answer) c = inl refl

-- a value that ends no message
abbrev IsPart : Told → Type 0
IsPart (Plain i) = Unit {0}
IsPart Quiet = Unit {0}
IsPart Fault = Unit {0}
IsPart Strange = Unit {0}
IsPart (Store context of id class instance found) = ⊥
IsPart (Whole context of command) = ⊥
IsPart (Agreement answer) = ⊥

module _ {S : Type 0} (step : S → DeskCall → DeskAnswer → S → Type 0) (moment : Moment) (c : Core) (requestor : Bool) (free : c.pending ≡ None) (told : Told) (s u : S) (x : Effect) where
  abbrev Out : Type 0
  Out = (u ≡ s) × StaysOff c requestor x

  -- it writes this
  out : (acts : List LinkAction) (d : Core) (pdus : List Pdu) → (x ≡ effect acts d) × (u ≡ s) → IsOff d requestor → d.site ≡ c.site → d.peer ≡ c.peer → d.proposed ≡ c.proposed
      → bytes_of acts ≡ spellings pdus → AllByRecursion IsControl pdus → ((limit : ℕ) → AreFit limit pdus) → Out
  out acts d pdus h off site peer proposed bytes control fits = (h.1, subst (λ (y : Effect). StaysOff c requestor y) (sym h.0) (off, site, peer, proposed, (pdus, bytes, control, fits)))

  -- it aborts, or writes nothing
  aborting : (source reason : ℕ) (d : Core) → (x ≡ effect (write (abort_pdu source reason ∷ []) ∷ []) d) × (u ≡ s) → IsOff d requestor → d.site ≡ c.site → d.peer ≡ c.peer → d.proposed ≡ c.proposed → Out
  aborting source reason d h off site peer proposed =
      out (write (abort_pdu source reason ∷ []) ∷ []) d (abort_pdu source reason ∷ []) h off site peer proposed (append-nil (spellings (abort_pdu source reason ∷ []))) (tt, tt) (λ limit. abort_fits limit source reason)

  silent : (acts : List LinkAction) (d : Core) → bytes_of acts ≡ [] → (x ≡ effect acts d) × (u ≡ s) → IsOff d requestor → d.site ≡ c.site → d.peer ≡ c.peer → d.proposed ≡ c.proposed → Out
  silent acts d none h off site peer proposed = out acts d [] h off site peer proposed none tt (λ limit. tt)

  same : IsOff c requestor → (x ≡ effect [] c) × (u ≡ s) → Out
  same off h = silent [] c refl h off refl refl refl

  by_event : IsOff c requestor → ((e : UpperEvent) → event_of told moment c ≡ Some e → Turns step (moves (next_stepped e (is_taken told moment c) c.phase moment.now) moment told c) s x u → Out) →
      (o : Option UpperEvent) → event_of told moment c ≡ o → Turns step (occurs o moment told c) s x u → Out
  by_event off f None e h = same off h
  by_event off f (Some event) e h = f event e h

  -- ---- an end that is gone

  pub gone : standing_of c.phase ≡ None → Turns step (turn moment c told) s x u → Out
  gone none h = by_event (free, inl none) (λ e is t. same (free, inl none) (subst (λ (o : Option Standing). Turns step (moves (stepped_from o e (is_taken told moment c) c.phase moment.now) moment told c) s x u) none t))
      (event_of told moment c) refl h

  -- ---- an end that awaits the end of its connection

  module _ (at : IsAt c requestor Sta13) where
    abbrev waiting : Core
    waiting = record c { phase = in_its_phase (moved at.0 Sta13 moment.now) }

    abbrev closed : Core
    closed = record c { phase = IdlePhase }

    still : (d : Core) → d.phase ≡ waiting.phase → d.pending ≡ None → IsOff d requestor
    still d p none = (none, inr (inr (moved at.0 Sta13 moment.now, ap standing_of p, at.2, refl)))

    abbrev In13 : UpperEvent → Bool → Type 0
    In13 e taken = Turns step (moves (after_cell (cell e Sta13 requestor taken) at.0 moment.now c.phase) moment told c) s x u

    by_noted : Turns step (Rattle.dr_session.specs.Reactions.leaves_by (noted told closed).pending moment.now (Close ∷ []) (noted told closed)) s x u → Out
    by_noted h = elim (noted_is told closed) [
      | inl e ↦ silent (Close ∷ []) (left closed) refl (left_nothing step moment.now (Close ∷ []) closed s u x free (subst (λ (d : Core). Turns step (Rattle.dr_session.specs.Reactions.leaves_by d.pending moment.now (Close ∷ []) d) s x u) e h)) (refl, inl refl) refl refl refl
      | inr e ↦ silent (Close ∷ []) (left (aborted closed)) refl (left_nothing step moment.now (Close ∷ []) (aborted closed) s u x free (subst (λ (d : Core). Turns step (Rattle.dr_session.specs.Reactions.leaves_by d.pending moment.now (Close ∷ []) d) s x u) e h)) (refl, inl refl) refl refl refl
    ]

    in13 : (e : UpperEvent) (taken : Bool) → In13 e taken → Out
    in13 AssociateRequest taken h = same (free, inr (inr at)) h
    in13 TransportConfirm taken h = same (free, inr (inr at)) h
    in13 AssociateAcPdu taken h = silent [] waiting refl h (still waiting refl free) refl refl refl
    in13 AssociateRjPdu taken h = silent [] waiting refl h (still waiting refl free) refl refl refl
    in13 TransportIndication taken h = same (free, inr (inr at)) h
    in13 AssociateRqPdu taken h = aborting 2 0 (aborted waiting) h (still (aborted waiting) refl free) refl refl refl
    in13 AcceptResponse taken h = same (free, inr (inr at)) h
    in13 RejectResponse taken h = same (free, inr (inr at)) h
    in13 DataRequest taken h = same (free, inr (inr at)) h
    in13 DataPdu taken h = silent [] waiting refl h (still waiting refl free) refl refl refl
    in13 ReleaseRequest taken h = same (free, inr (inr at)) h
    in13 ReleaseRqPdu taken h = silent [] waiting refl h (still waiting refl free) refl refl refl
    in13 ReleaseRpPdu taken h = silent [] waiting refl h (still waiting refl free) refl refl refl
    in13 ReleaseResponse taken h = same (free, inr (inr at)) h
    in13 AbortRequest taken h = same (free, inr (inr at)) h
    in13 AbortPdu taken h = by_noted h
    in13 TransportClosed taken h = silent [] closed refl h (free, inl refl) refl refl refl
    in13 ArtimExpired taken h = by_noted h
    in13 InvalidPdu taken h = aborting 2 0 (aborted waiting) h (still (aborted waiting) refl free) refl refl refl

    pub awaiting_end : Turns step (turn moment c told) s x u → Out
    awaiting_end h = by_event (free, inr (inr at)) (λ e is t. in13 e (is_taken told moment c) (subst (λ (r : Result (Action × Next) Next). Turns step (moves r moment told c) s x u) (stepped_at e (is_taken told moment c) c.phase moment.now requestor Sta13 at.0 at.1 at.2 at.3) t))
        (event_of told moment c) refl h

  -- ---- a requestor that has asked for the release

  module _ (side : requestor ≡ true) (awaits : c.assembly.awaited ≡ Nothing) (no_data : data_of c.assembly.stage ≡ None) where
    abbrev In : State → UpperEvent → Bool → (a : Standing) → Type 0
    In state e taken a = Turns step (moves (after_cell (cell e state true taken) a moment.now c.phase) moment told c) s x u

    turned : (state : State) (at : IsAt c true state) (off : IsOff c requestor) → ((e : UpperEvent) (taken : Bool) → event_of told moment c ≡ Some e → In state e taken at.0 → Out) → Turns step (turn moment c told) s x u → Out
    turned state at off f h = by_event off (λ e is t. f e (is_taken told moment c) is (subst (λ (r : Result (Action × Next) Next). Turns step (moves r moment told c) s x u) (stepped_at e (is_taken told moment c) c.phase moment.now true state at.0 at.1 at.2 at.3) t))
        (event_of told moment c) refl h

    module _ (a : Standing) (asks : a.requestor ≡ true) where
      abbrev on_its_way : State → Core
      on_its_way state = record c { phase = in_its_phase (moved a state moment.now) }

      off13 : (d : Core) → d.phase ≡ in_its_phase (moved a Sta13 moment.now) → d.pending ≡ None → IsOff d requestor
      off13 d p none = (none, inr (inr (moved a Sta13 moment.now, ap standing_of p, asks ∙ sym side, refl)))

      -- it aborts, with what is read at the moment
      by_abort : (source reason : ℕ) (d : Core) → d.phase ≡ in_its_phase (moved a Sta13 moment.now) → d.pending ≡ None → d.site ≡ c.site → d.peer ≡ c.peer → d.proposed ≡ c.proposed →
          Turns step (Rattle.dr_session.specs.Reactions.leaves_by d.pending moment.now (write (abort_pdu source reason ∷ []) ∷ []) d) s x u → Out
      by_abort source reason d p none site peer proposed h = aborting source reason (left d) (left_nothing step moment.now (write (abort_pdu source reason ∷ []) ∷ []) d s u x none h) (off13 (left d) p refl) site peer proposed

      by_end : (acts : List LinkAction) (d : Core) → bytes_of acts ≡ [] → standing_of d.phase ≡ None → d.pending ≡ None → d.site ≡ c.site → d.peer ≡ c.peer → d.proposed ≡ c.proposed →
          Turns step (Rattle.dr_session.specs.Reactions.leaves_by d.pending moment.now acts d) s x u → Out
      by_end acts d none gone_now free_now site peer proposed h = silent acts (left d) none (left_nothing step moment.now acts d s u x free_now h) (refl, inl gone_now) site peer proposed

    off11 : (at : IsAt c true Sta11) → IsOff c requestor
    off11 at = (free, inr (inl (side, inr at, awaits, no_data)))

    in11 : (at : IsAt c true Sta11) (e : UpperEvent) (taken : Bool) → In Sta11 e taken at.0 → Out
    in11 at AssociateRequest taken h = same (off11 at) h
    in11 at TransportConfirm taken h = same (off11 at) h
    in11 at AssociateAcPdu taken h = by_abort at.0 at.2 2 (reason_of told) (aborted (on_its_way at.0 at.2 Sta13)) refl free refl refl refl h
    in11 at AssociateRjPdu taken h = by_abort at.0 at.2 2 (reason_of told) (aborted (on_its_way at.0 at.2 Sta13)) refl free refl refl refl h
    in11 at TransportIndication taken h = same (off11 at) h
    in11 at AssociateRqPdu taken h = by_abort at.0 at.2 2 (reason_of told) (aborted (on_its_way at.0 at.2 Sta13)) refl free refl refl refl h
    in11 at AcceptResponse taken h = same (off11 at) h
    in11 at RejectResponse taken h = same (off11 at) h
    in11 at DataRequest taken h = same (off11 at) h
    in11 at DataPdu taken h = by_abort at.0 at.2 2 (reason_of told) (aborted (on_its_way at.0 at.2 Sta13)) refl free refl refl refl h
    in11 at ReleaseRequest taken h = same (off11 at) h
    in11 at ReleaseRqPdu taken h = by_abort at.0 at.2 2 (reason_of told) (aborted (on_its_way at.0 at.2 Sta13)) refl free refl refl refl h
    in11 at ReleaseRpPdu taken h = silent (Close ∷ []) (released (on_its_way at.0 at.2 Sta1)) refl h (free, inl refl) refl refl refl
    in11 at ReleaseResponse taken h = same (off11 at) h
    in11 at AbortRequest taken h = by_abort at.0 at.2 0 0 (aborted (on_its_way at.0 at.2 Sta13)) refl free refl refl refl h
    in11 at AbortPdu taken h = by_end at.0 at.2 (Close ∷ []) (aborted (on_its_way at.0 at.2 Sta1)) refl refl free refl refl refl h
    in11 at TransportClosed taken h = by_end at.0 at.2 [] (on_its_way at.0 at.2 Sta1) refl refl free refl refl refl h
    in11 at ArtimExpired taken h = same (off11 at) h
    in11 at InvalidPdu taken h = by_abort at.0 at.2 2 (reason_of told) (aborted (on_its_way at.0 at.2 Sta13)) refl free refl refl refl h

    pub releasing_behind : IsAt c true Sta11 → Turns step (turn moment c told) s x u → Out
    releasing_behind at h = turned Sta11 at (off11 at) (λ e taken is t. in11 at e taken t) h

    off7 : (at : IsAt c true Sta7) → IsOff c requestor
    off7 at = (free, inr (inl (side, inl at, awaits, no_data)))

    module _ (at : IsAt c true Sta7) (part : IsPart told) where
      abbrev here : Core
      here = record c { phase = in_its_phase (moved at.0 Sta7 moment.now) }

      here_off : IsOff here requestor
      here_off = (free, inr (inl (side, inl (moved at.0 Sta7 moment.now, refl, at.2, refl), awaits, no_data)))

      in_data : (told_now : Told) → IsPart told_now → Turns step (Rattle.dr_session.specs.Reactions.hears told_now moment here) s x u → Out
      in_data (Plain i) p h = silent [] here refl h here_off refl refl refl
      in_data Quiet p h = silent [] here refl h here_off refl refl refl
      in_data Strange p h = silent [] here refl h here_off refl refl refl
      in_data Fault p h = by_abort (moved at.0 Sta7 moment.now) at.2 0 0 (aborted (stepped_by AbortRequest moment.now here)) refl free refl refl refl h
      in_data (Store context of id class instance found) p h = absurd p
      in_data (Whole context of command) p h = absurd p
      in_data (Agreement answer) p h = absurd p

      abbrev answering : Core
      answering = on_its_way at.0 at.2 Sta9

      answered : Turns step (collides moment.now answering) s x u → Out
      answered h =
          let d : Core = released (stepped_by ReleaseResponse moment.now answering) in
          let h1 : (x ≡ effect (write (pdu.ReleaseRp ∷ []) ∷ []) d) × (u ≡ s) =
          subst (λ (b : Bool). Turns step (if b then Ends (effect (write (pdu.ReleaseRp ∷ []) ∷ []) d) else Ends (effect [] answering)) s x u) at.2 h in
          out (write (pdu.ReleaseRp ∷ []) ∷ []) d (pdu.ReleaseRp ∷ []) h1 (free, inr (inl (side, inr (moved (moved at.0 Sta9 moment.now) Sta11 moment.now, refl, at.2, refl), awaits, no_data))) refl refl refl
          (append-nil (spellings (pdu.ReleaseRp ∷ []))) (tt, tt) close_fits

      in7 : (e : UpperEvent) (taken : Bool) → In Sta7 e taken at.0 → Out
      in7 AssociateRequest taken h = same (off7 at) h
      in7 TransportConfirm taken h = same (off7 at) h
      in7 AssociateAcPdu taken h = by_abort at.0 at.2 2 (reason_of told) (aborted (on_its_way at.0 at.2 Sta13)) refl free refl refl refl h
      in7 AssociateRjPdu taken h = by_abort at.0 at.2 2 (reason_of told) (aborted (on_its_way at.0 at.2 Sta13)) refl free refl refl refl h
      in7 TransportIndication taken h = same (off7 at) h
      in7 AssociateRqPdu taken h = by_abort at.0 at.2 2 (reason_of told) (aborted (on_its_way at.0 at.2 Sta13)) refl free refl refl refl h
      in7 AcceptResponse taken h = same (off7 at) h
      in7 RejectResponse taken h = same (off7 at) h
      in7 DataRequest taken h = same (off7 at) h
      in7 DataPdu taken h = in_data told part h
      in7 ReleaseRequest taken h = same (off7 at) h
      in7 ReleaseRqPdu taken h = answered h
      in7 ReleaseRpPdu taken h = silent (Close ∷ []) (released (on_its_way at.0 at.2 Sta1)) refl h (free, inl refl) refl refl refl
      in7 ReleaseResponse taken h = same (off7 at) h
      in7 AbortRequest taken h = by_abort at.0 at.2 0 0 (aborted (on_its_way at.0 at.2 Sta13)) refl free refl refl refl h
      in7 AbortPdu taken h = by_end at.0 at.2 (Close ∷ []) (aborted (on_its_way at.0 at.2 Sta1)) refl refl free refl refl refl h
      in7 TransportClosed taken h = by_end at.0 at.2 [] (on_its_way at.0 at.2 Sta1) refl refl free refl refl refl h
      in7 ArtimExpired taken h = same (off7 at) h
      in7 InvalidPdu taken h = by_abort at.0 at.2 2 (reason_of told) (aborted (on_its_way at.0 at.2 Sta13)) refl free refl refl refl h

      pub releasing : Turns step (turn moment c told) s x u → Out
      releasing h = turned Sta7 at (off7 at) (λ e taken is t. in7 e taken t) h

-- ---- what such an end is told

-- a value ends no message where nothing is awaited, and begins no data set
none_taken : (stage : Taken) (p : Pdv) (m : Message) (next : Taken) → data_of stage ≡ None → TakesValue Nothing stage p (Ok (Some m)) next → ⊥
none_taken Idle p m next none (inl (place, want, h)) = absurd h
none_taken (InCommand id text) p m next none (inl (place, want, h)) = absurd h
none_taken (InData id command body) p m next none h = cc none
none_taken Idle p m next none (inr (inl (short, inner, e, is))) = cc e
none_taken (InCommand id text) p m next none (inr (inl (short, inner, e, is))) = cc e
none_taken Idle p m next none (inr (inr (text, command, ends, is, wanted, b))) = wanted
none_taken (InCommand id t) p m next none (inr (inr (text, command, ends, is, wanted, b))) = wanted

no_data_taken : (stage : Taken) (p : Pdv) (next : Taken) → data_of stage ≡ None → TakesValue Nothing stage p (Ok None) next → data_of next ≡ None
no_data_taken Idle p next none (inl (place, want, h)) = absurd h
no_data_taken (InCommand id text) p next none (inl (place, want, h)) = absurd h
no_data_taken (InData id command body) p next none h = absurd (cc none)
no_data_taken Idle p next none (inr (inl (short, inner, e, is))) = ap data_of is
no_data_taken (InCommand id text) p next none (inr (inl (short, inner, e, is))) = ap data_of is
no_data_taken Idle p next none (inr (inr (text, command, ends, is, wanted, b))) = absurd wanted
no_data_taken (InCommand id t) p next none (inr (inr (text, command, ends, is, wanted, b))) = absurd wanted

abbrev IsHarmless : Told → Taken → Type 0
IsHarmless told stage = IsPart told × (data_of stage ≡ None)

told_part : (told : Told) (t : Told) → told ≡ t → IsPart t → IsPart told
told_part told t e h = subst (λ (y : Told). IsPart y) (sym e) h

module _ (c : Core) (awaits : c.assembly.awaited ≡ Nothing) (no_data : data_of c.assembly.stage ≡ None) (p : Pdv) (told : Told) (stage : Taken) where
  by_taken : (x : Pair) (answer : Result (Option Message) DimseFault) → TakesValue Nothing c.assembly.stage p answer stage → Says x answer told → IsHarmless told stage
  by_taken x (Ok None) takes says = (told_part told Quiet says tt, no_data_taken c.assembly.stage p stage no_data takes)
  by_taken x (Ok (Some m)) takes says = absurd (none_taken c.assembly.stage p m stage no_data takes)
  by_taken x (Err dimse.MixedContext) takes says = (told_part told Fault says tt, ap data_of takes.0 ∙ no_data)
  by_taken x (Err dimse.OutOfPlace) takes says = (told_part told Fault says tt, ap data_of takes.0 ∙ no_data)
  by_taken x (Err dimse.TooLong) takes says = (told_part told Fault says tt, ap data_of takes.0 ∙ no_data)
  by_taken x (Err dimse.BadCommand) takes says = (told_part told Fault says tt, ap data_of takes.0 ∙ no_data)
  by_taken x (Err dimse.Memory) takes says = absurd says

  by_pair : (o : Option Pair) → TellsIn o c p told stage → IsHarmless told stage
  by_pair None h = (told_part told Strange h.0 tt, ap data_of h.1 ∙ no_data)
  by_pair (Some x) h = by_taken x h.0 (subst (λ (a : Awaited). TakesValue a c.assembly.stage p h.0 stage) awaits h.1) h.2

  by_agreed : (o : Option Agreed) → TellsValue o c p told stage → IsHarmless told stage
  by_agreed None h = (told_part told Strange h.0 tt, ap data_of h.1 ∙ no_data)
  by_agreed (Some agreed) h = by_pair (pair_at agreed p.id) h

-- an input that isn't looked into, and where it is looked into as it comes
by_plain : (c : Core) (no_data : data_of c.assembly.stage ≡ None) (i : Input) (told : Told) (stage : Taken) → (told ≡ Plain i) × (stage ≡ c.assembly.stage) → IsHarmless told stage
by_plain c no_data i told stage h = (told_part told (Plain i) h.0 tt, ap data_of h.1 ∙ no_data)

at_state : (c : Core) (state : State) → IsAt c true state → state_of c.phase ≡ state
at_state c state at = ap (λ (o : Option Standing). option_map_or (λ (b : Standing). b.state) o Sta1) at.1 ∙ at.3

harmless : (c : Core) (awaits : c.assembly.awaited ≡ Nothing) (no_data : data_of c.assembly.stage ≡ None) → IsAt c true Sta7 ⊎ IsAt c true Sta11 → (i : Input) (told : Told) (stage : Taken) → Tells c i told stage → IsHarmless told stage
harmless c awaits no_data (inl at) (input.Value p) told stage h =
    by_agreed c awaits no_data p told stage c.agreed (subst (λ (z : State). Looks (action_of DataPdu z) c (input.Value p) told stage) (at_state c Sta7 at) h)
harmless c awaits no_data (inr at) (input.Value p) told stage h =
    by_plain c no_data (input.Value p) told stage (subst (λ (z : State). Looks (action_of DataPdu z) c (input.Value p) told stage) (at_state c Sta11 at) h)
harmless c awaits no_data (inl at) (input.Acceptance ac) told stage h =
    by_plain c no_data (input.Acceptance ac) told stage (subst (λ (z : State). Looks (action_of AssociateAcPdu z) c (input.Acceptance ac) told stage) (at_state c Sta7 at) h)
harmless c awaits no_data (inr at) (input.Acceptance ac) told stage h =
    by_plain c no_data (input.Acceptance ac) told stage (subst (λ (z : State). Looks (action_of AssociateAcPdu z) c (input.Acceptance ac) told stage) (at_state c Sta11 at) h)
harmless c awaits no_data at (input.Request a) told stage h = by_plain c no_data (input.Request a) told stage h
harmless c awaits no_data at (input.Rejection a) told stage h = by_plain c no_data (input.Rejection a) told stage h
harmless c awaits no_data at input.NoValue told stage h = by_plain c no_data input.NoValue told stage h
harmless c awaits no_data at input.ReleaseRq told stage h = by_plain c no_data input.ReleaseRq told stage h
harmless c awaits no_data at input.ReleaseRp told stage h = by_plain c no_data input.ReleaseRp told stage h
harmless c awaits no_data at input.Unknown told stage h = by_plain c no_data input.Unknown told stage h
harmless c awaits no_data at input.Invalid told stage h = by_plain c no_data input.Invalid told stage h
harmless c awaits no_data at input.Ended told stage h = by_plain c no_data input.Ended told stage h
harmless c awaits no_data at input.Late told stage h = by_plain c no_data input.Late told stage h
harmless c awaits no_data at input.AbortAsked told stage h = by_plain c no_data input.AbortAsked told stage h
harmless c awaits no_data at input.ReleaseAsked told stage h = by_plain c no_data input.ReleaseAsked told stage h
harmless c awaits no_data at input.PushAsked told stage h = by_plain c no_data input.PushAsked told stage h
harmless c awaits no_data at (input.Abort a) told stage h = by_plain c no_data (input.Abort a) told stage h

-- ---- all of it

pub off_stays_off : {S : Type 0} (step : S → DeskCall → DeskAnswer → S → Type 0) → OffStaysOff step
off_stays_off step c requestor (free, inl none) i s u x r = gone step i.moment (with_stage r.stage c) requestor free r.told s u x none r.turns
off_stays_off step c requestor (free, inr (inr at)) i s u x r = awaiting_end step i.moment (with_stage r.stage c) requestor free r.told s u x at r.turns
off_stays_off step c requestor (free, inr (inl (side, inl at, awaits, none))) i s u x r =
    let h = harmless c awaits none (inl at) i.input r.told r.stage r.tells in
    releasing step i.moment (with_stage r.stage c) requestor free r.told s u x side awaits h.1 at h.0 r.turns
off_stays_off step c requestor (free, inr (inl (side, inr at, awaits, none))) i s u x r =
    let h = harmless c awaits none (inr at) i.input r.told r.stage r.tells in
    releasing_behind step i.moment (with_stage r.stage c) requestor free r.told s u x side awaits h.1 at r.turns
