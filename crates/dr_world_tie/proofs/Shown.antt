-- Steps of a world of bytes are events of the message world beside it.
use Rattle.std.proofs.Common.{◌≡◌, ◌≢◌, ℕ, ◌<◌, Bool, true, false, List, [], ◌∷◌, length, take, Option, Some, None, refl, sym, ap, subst, ◌∙◌, inl, inr, ◌⊎◌, arith}
use Rattle.std.proofs.Math.Logic.{∥∥₁_map}
use Rattle.std.specs.Prelude.{◌&&◌, ◌||◌, not, is_some, nat_le}
use Rattle.std.specs.FinMap as map_of
use Rattle.std.specs.Ordering.{nat_cmp, eq_by_cmp}
use Rattle.std.specs.Option.{option_map_or}
use Rattle.std.proofs.lemmas.List.{append-nil}
use Rattle.std.proofs.lemmas.Bool.{false≢true, cases_Bool, and_parts}
use Rattle.dr_base.specs.Texts.{Text}
use Rattle.dr_plan_model.specs.Networks.{Network}
use Rattle.dr_plan_sound.specs.declared.certificate.Certificate.{Certificate}
use Rattle.dr_site.specs.Sites.{IsCertified}
use Rattle.dr_ulstate.specs.declared.table.State.{State}
use Rattle.dr_ulstate.specs.declared.table.State.TheVariants.{Sta1, Sta2, Sta5, Sta7, Sta11, Sta13}
use Rattle.dr_ulstate.specs.declared.table.Event.{Event as UpperEvent}
use Rattle.dr_ulstate.specs.declared.table.Event.TheVariants.{AbortRequest, ReleaseRequest}
use Rattle.dr_ulstate.specs.Table.{action_of}
use Rattle.dr_ulstate.specs.Standing.{Standing}
use Rattle.dr_ulstate.specs.Phases.{state_of, may_send, next_expired}
use Rattle.dr_ledger.proofs.Maps.{get_new, get_other, same_or_not, ties_itself}
use Rattle.dr_world_model.proofs.Lookups.{numbers}
use Rattle.dr_world_model.specs.Worlds.{World, Link, Stage, Asking, Answering, Rejecting, Open as OpenStage, Storing, Replying, Gone}
use Rattle.dr_world_model.specs.Steps.{IsLink, others}
use Rattle.dr_world_model.specs.Events.{Event, Give, PassOver, BreakCaller, BreakReceiver}
use Rattle.dr_session.specs.declared.ends.Core.{Core}
use Rattle.dr_session.specs.declared.ends.Effect.{Effect}
use Rattle.dr_session.specs.declared.ends.Input.{Input}
use Rattle.dr_session.specs.declared.ends.Input.TheVariants.{Ended, Late as LateMark, AbortAsked, ReleaseAsked, PushAsked}
use Rattle.dr_session.specs.declared.ends.Moment.{Moment}
use Rattle.dr_session.specs.declared.ends.Pending.{Pending}
use Rattle.dr_session.specs.Plays.{Reacts, PlaysBytes, at_moment}
use Rattle.dr_session.specs.Reactions.{effect, is_idle, is_free, is_impatient, is_requestor}
use Rattle.dr_world_tie.specs.Desks.{Desk, LedgerStep}
use Rattle.dr_world_tie.specs.Channels.{LiveTerminal, Channel, ShowsLink, IsCaller, IsReceiver, IsAt, IsOff, site_of}
use Rattle.dr_world_tie.specs.Ties.{IsData, IsDeskOf, Happens, caller_did, receiver_did, caller_read, receiver_read, is_late}
use Rattle.dr_world_tie.specs.Nodes.{HappensAt}
use Rattle.dr_world_tie.specs.ByteWorlds.{ByteWorld, WorldStep, Submit, Open, Push, Move, Abort, Release, Close, Late, Restart, Requeue, Drop, Forget, Tick, Refuse, Side, Requestor, Acceptor, StepNote, Done, Skipped, Skips, DoesIf, ReadsIf, LinkStep, NodeStep, Steps, CallerMeets, CallerPushes, PushesIf, ReceiverMeets, Meets, CallerHears, ReceiverHears, CallerReads, ReceiverReads, Moves, Closes, IsMoment, IsMoved, caller_of, receiver_of, with_done, with_call, has_cell, acts_late, is_over}
use Rattle.dr_world_tie.specs.Shown.{ShowsWorld, ShowsAt, IsNamed, Comes, IsOffAt, IsSilent}
use Rattle.dr_world_tie.proofs.Others.{same_others, state_is}
use Rattle.dr_world_tie.proofs.Restarting.{desks_after}
use Rattle.dr_world_tie.proofs.CallerLeaving.{caller_leaves, late_at_caller, release_leaves}
use Rattle.dr_world_tie.proofs.Leaving.{receiver_leaves, late_at_receiver}
use Rattle.dr_world_tie.proofs.Closing.{off_caller_is_no_event, off_receiver_is_no_event}
use Rattle.dr_world_tie.proofs.Moves.{caller_moves, receiver_moves}
use Rattle.dr_world_tie.proofs.Pushing.{push_gives}

-- a late mark that acts has come too late
was_late : (c : Core) (now : ℕ) → acts_late c now ≡ true → is_late c now ≡ true
was_late c now h = one_of (next_expired c.phase now) (is_impatient c now) (has_cell AbortRequest c) h
  where
    one_of : (expired impatient cell : Bool) → (expired || (impatient && cell)) ≡ true → (expired || impatient) ≡ true
    one_of true impatient cell e = refl
    one_of false true cell e = refl
    one_of false false cell e = e

module _ (plan : Network) (certificate : Certificate) where
  abbrev pub Result_of : ByteWorld → WorldStep → StepNote → World → ByteWorld → Type 0
  Result_of b step note w new = (v : World) × Comes plan b step note w v × ShowsWorld plan certificate new v

  -- ---- what an event leaves

  other_apart : (other number : ℕ) → eq_by_cmp nat_cmp other number ≡ false → other ≢ number
  other_apart other number apart e = false≢true (sym apart ∙ (ap (λ (n : ℕ). eq_by_cmp nat_cmp n number) e ∙ ties_itself numbers number))

  pub after : (b : ByteWorld) (w : World) (number : ℕ) (event : Event) (name : Text) (t : Desk) (k : Channel) → ShowsWorld plan certificate b w → (h : Happens plan certificate w number event name t k) → ShowsWorld plan certificate (with_done b name t number k) h.after
  after b w number event name t k s h = record {
    time = h.only.rest.0 ∙ s.time;
    opened = h.only.rest.2 ∙ s.opened;
    desks = desks_after w h.after number name b.desks t s.desks h.desk h.only;
    links = λ other. elim (same_or_not numbers other number) [
      | inl same ↦ (
          let P : ℕ → Type 0 = λ n. ShowsAt plan certificate (map_of.get (map_of.insert b.links number k) n) (map_of.get h.after.links n) in
          subst P (sym same) (subst (λ (o : Option Channel). ShowsAt plan certificate o (map_of.get h.after.links number)) (sym (get_new numbers b.links number k))
          (subst (λ (o : Option Link). ShowsAt plan certificate (Some k) o) (sym h.here) h.shows)))
      | inr apart ↦ (
          subst (λ (o : Option Channel). ShowsAt plan certificate o (map_of.get h.after.links other)) (sym (get_other numbers b.links number k other apart))
          (subst (λ (o : Option Link). ShowsAt plan certificate (map_of.get b.links other) o) (sym (h.only.links other (other_apart other number apart))) (s.links other)))
    ];
  }

  pub nothing : (b : ByteWorld) (w : World) (number : ℕ) (link : Link) (name : Text) (t : Desk) (k : Channel) → ShowsWorld plan certificate b w → IsLink w number link → t ≡ b.desks name → ShowsLink plan certificate k link → ShowsWorld plan certificate (with_done b name t number k) w
  nothing b w number link name t k s here same shows = record {
    time = s.time;
    opened = s.opened;
    desks = desks_after w w number name b.desks t s.desks (subst (λ (d : Desk). IsDeskOf w name d) (sym same) (s.desks name))
        (record { books = λ other apart. refl; links = λ other apart. refl; armed = λ other apart. refl; rest = (refl, refl, refl) });
    links = λ other. elim (same_or_not numbers other number) [
      | inl e ↦ (
          let P : ℕ → Type 0 = λ n. ShowsAt plan certificate (map_of.get (map_of.insert b.links number k) n) (map_of.get w.links n) in
          subst P (sym e) (subst (λ (o : Option Channel). ShowsAt plan certificate o (map_of.get w.links number)) (sym (get_new numbers b.links number k))
          (subst (λ (o : Option Link). ShowsAt plan certificate (Some k) o) (sym here) shows)))
      | inr apart ↦ subst (λ (o : Option Channel). ShowsAt plan certificate o (map_of.get w.links other)) (sym (get_other numbers b.links number k other apart)) (s.links other)
    ];
  }

  pub at_node : (b : ByteWorld) (w : World) (event : Event) (name : Text) (t : Desk) → ShowsWorld plan certificate b w → (h : HappensAt plan w event name t) → ShowsWorld plan certificate (with_call b name t) h.after
  at_node b w event name t s h = record {
    time = h.only.rest.0 ∙ s.time;
    opened = h.only.rest.2 ∙ s.opened;
    desks = desks_after w h.after 0 name b.desks t s.desks h.desk_is
        (record { books = h.only.books; links = λ other apart. ap (λ (l : _). map_of.get l other) h.only.links; armed = h.only.armed; rest = h.only.rest });
    links = λ other. subst (λ (l : _). ShowsAt plan certificate (map_of.get b.links other) (map_of.get l other)) (sym h.only.links) (s.links other);
  }

  -- an event, or nothing
  abbrev pub Outcome : ByteWorld → WorldStep → World → ℕ → Link → Text → Desk → Desk → Channel → Type 0
  Outcome b step w number link name s t k = ((event : Event) × IsNamed step event × Happens plan certificate w number event name t k) ⊎ ((t ≡ s) × ShowsLink plan certificate k link × IsSilent b w step)

  pub comes : (step : WorldStep) (note : StepNote) (b : ByteWorld) (w : World) (number : ℕ) (link : Link) (name there : Text) (t : Desk) (k : Channel) → ShowsWorld plan certificate b w → IsLink w number link → there ≡ name
      → Outcome b step w number link name (b.desks name) t k → Result_of b step note w (with_done b there t number k)
  comes step note b w number link name there t k s here same (inl (event, named, h)) =
      (h.after, inr (event, named, h.step), subst (λ (n : Text). ShowsWorld plan certificate (with_done b n t number k) h.after) (sym same) (after b w number event name t k s h))
  comes step note b w number link name there t k s here same (inr (e, shows, silent)) =
      (w, inl (refl, inr silent), subst (λ (n : Text). ShowsWorld plan certificate (with_done b n t number k) w) (sym same) (nothing b w number link name t k s here e shows))

  pub skips : (step : WorldStep) (b new : ByteWorld) (w : World) (note : StepNote) → ShowsWorld plan certificate b w → Skips b note new → Result_of b step note w new
  skips step b new w note s (skipped, same) = (w, inl (refl, inl skipped), subst (λ (c : ByteWorld). ShowsWorld plan certificate c w) (sym same) s)

  -- ---- an end that does nothing

  pub idle_caller : (link : Link) (k : Channel) → ShowsLink plan certificate k link → ShowsLink plan certificate (caller_did k (effect [] k.caller.core)) link
  idle_caller link k shows = (
      let P : List ℕ → Type 0 = λ l. ShowsLink plan certificate (record { caller = k.caller; receiver = k.receiver; to_caller = k.to_caller; to_receiver = l }) link in
      subst P (sym (append-nil k.to_receiver)) shows)

  pub idle_receiver : (link : Link) (k : Channel) → ShowsLink plan certificate k link → ShowsLink plan certificate (receiver_did k (effect [] k.receiver.core)) link
  idle_receiver link k shows = (
      let P : List ℕ → Type 0 = λ l. ShowsLink plan certificate (record { caller = k.caller; receiver = k.receiver; to_caller = l; to_receiver = k.to_receiver }) link in
      subst P (sym (append-nil k.to_caller)) shows)

  module _ (certified : IsCertified plan certificate) (b : ByteWorld) (w : World) (s : ShowsWorld plan certificate b w) (number : ℕ) (link : Link) (k : Channel) (has : map_of.get b.links number ≡ Some k) (here : IsLink w number link) (shows : ShowsLink plan certificate k link) where
    from_is : caller_of k ≡ link.caller
    from_is = shows.from.1

    to_is : receiver_of k ≡ link.receiver
    to_is = shows.to.1

    now_is : (name : Text) (at : Moment) → IsMoment b number name at → at.now ≡ w.time
    now_is name at m = m.0 ∙ sym s.time

    -- ---- the caller

    abbrev CallerOutcome : WorldStep → Desk → Channel → Type 0
    CallerOutcome step t k' = Outcome b step w number link link.caller (b.desks link.caller) t k'

    abbrev ReceiverOutcome : WorldStep → Desk → Channel → Type 0
    ReceiverOutcome step t k' = Outcome b step w number link link.receiver (b.desks link.receiver) t k'

    caller_met : (step : WorldStep) (note : StepNote) (i : Input) (new : ByteWorld) → ((at : Moment) → at.now ≡ w.time → (x : Effect) (t : Desk) → Reacts (LedgerStep plan link.caller) k.caller.core (at_moment at i) (b.desks link.caller) x t → ∥ CallerOutcome step t (caller_did k x) ∥₁)
        → CallerMeets plan b number k i new → ∥ Result_of b step note w new ∥₁
    caller_met step note i new f (at, x, t, m, r, is) =
        let r1 : Reacts (LedgerStep plan link.caller) k.caller.core (at_moment at i) (b.desks link.caller) x t =
        subst (λ (n : Text). Reacts (LedgerStep plan n) k.caller.core (at_moment at i) (b.desks n) x t) from_is r in
        ∥∥₁_map (f at (now_is (caller_of k) at m) x t r1) (λ o. subst (λ (c : ByteWorld). Result_of b step note w c) (sym is) (comes step note b w number link link.caller (caller_of k) t (caller_did k x) s here from_is o))

    receiver_met : (step : WorldStep) (note : StepNote) (i : Input) (new : ByteWorld) → ((at : Moment) → at.now ≡ w.time → (x : Effect) (t : Desk) → Reacts (LedgerStep plan link.receiver) k.receiver.core (at_moment at i) (b.desks link.receiver) x t → ∥ ReceiverOutcome step t (receiver_did k x) ∥₁)
        → ReceiverMeets plan b number k i new → ∥ Result_of b step note w new ∥₁
    receiver_met step note i new f (at, x, t, m, r, is) =
        let r1 : Reacts (LedgerStep plan link.receiver) k.receiver.core (at_moment at i) (b.desks link.receiver) x t =
        subst (λ (n : Text). Reacts (LedgerStep plan n) k.receiver.core (at_moment at i) (b.desks n) x t) to_is r in
        ∥∥₁_map (f at (now_is (receiver_of k) at m) x t r1) (λ o. subst (λ (c : ByteWorld). Result_of b step note w c) (sym is) (comes step note b w number link link.receiver (receiver_of k) t (receiver_did k x) s here to_is o))

    off_caller : (step : WorldStep) → (IsOffAt w number Requestor → IsSilent b w step) → (at : Moment) (i : Input) (x : Effect) (t : Desk) → link.caller_connected ≡ false → Reacts (LedgerStep plan link.caller) k.caller.core (at_moment at i) (b.desks link.caller) x t → CallerOutcome step t (caller_did k x)
    off_caller step silent at i x t off r = (let h = (off_caller_is_no_event (LedgerStep plan link.caller) plan certificate link k shows off (b.desks link.caller) t x).0 (at_moment at i) r in inr (h.0, h.1, silent (link, here, off)))

    off_receiver : (step : WorldStep) → (IsOffAt w number Acceptor → IsSilent b w step) → (at : Moment) (i : Input) (x : Effect) (t : Desk) → link.receiver_connected ≡ false → Reacts (LedgerStep plan link.receiver) k.receiver.core (at_moment at i) (b.desks link.receiver) x t → ReceiverOutcome step t (receiver_did k x)
    off_receiver step silent at i x t off r = (let h = (off_receiver_is_no_event (LedgerStep plan link.receiver) plan certificate link k shows off (b.desks link.receiver) t x).0 (at_moment at i) r in inr (h.0, h.1, silent (link, here, off)))

    con : link.caller_connected ≡ true → IsCaller true link.stage link.receiver k.caller.core
    con on = subst (λ (z : Bool). IsCaller z link.stage link.receiver k.caller.core) on shows.caller

    ron : link.receiver_connected ≡ true → IsReceiver true link.stage link.caller k.receiver.core
    ron on = subst (λ (z : Bool). IsReceiver z link.stage link.caller k.receiver.core) on shows.receiver

    -- ---- its connection ends

    pub caller_ended : (step : WorldStep) → ((answer : _) → IsNamed step (BreakCaller number answer)) → (IsOffAt w number Requestor → IsSilent b w step) → (at : Moment) → at.now ≡ w.time → (x : Effect) (t : Desk) → Reacts (LedgerStep plan link.caller) k.caller.core (at_moment at Ended) (b.desks link.caller) x t → CallerOutcome step t (caller_did k x)
    caller_ended step named silent at time x t r = elim (cases_Bool link.caller_connected) [
      | inl on ↦ (let a = caller_leaves plan certificate w number link k (b.desks link.caller) here (s.desks link.caller) shows on at time Ended (inl refl) x t r in inl (BreakCaller number a.0, named a.0, a.1))
      | inr off ↦ off_caller step silent at Ended x t off r
    ]

    pub receiver_ended : (step : WorldStep) → IsNamed step (BreakReceiver number) → (IsOffAt w number Acceptor → IsSilent b w step) → (at : Moment) → at.now ≡ w.time → (x : Effect) (t : Desk) → Reacts (LedgerStep plan link.receiver) k.receiver.core (at_moment at Ended) (b.desks link.receiver) x t → ReceiverOutcome step t (receiver_did k x)
    receiver_ended step named silent at time x t r = elim (cases_Bool link.receiver_connected) [
      | inl on ↦ inl (BreakReceiver number, named, receiver_leaves plan certificate w number link k (b.desks link.receiver) here (s.desks link.receiver) shows on at time Ended (inl refl) (λ e. cc e) x t r)
      | inr off ↦ off_receiver step silent at Ended x t off r
    ]

    -- ---- aborts

    pub caller_aborted : (at : Moment) → at.now ≡ w.time → (x : Effect) (t : Desk) → Reacts (LedgerStep plan link.caller) k.caller.core (at_moment at AbortAsked) (b.desks link.caller) x t → CallerOutcome (Abort number Requestor) t (caller_did k x)
    caller_aborted at time x t r = elim (cases_Bool link.caller_connected) [
      | inl on ↦ (let a = caller_leaves plan certificate w number link k (b.desks link.caller) here (s.desks link.caller) shows on at time AbortAsked (inr refl) x t r in inl (BreakCaller number a.0, refl, a.1))
      | inr off ↦ off_caller (Abort number Requestor) (λ o. o) at AbortAsked x t off r
    ]

    no_cell : (c : Core) (requestor : Bool) (state : State) (e : UpperEvent) → IsAt c requestor state → is_some (action_of e state) ≡ false → has_cell e c ≡ true → ⊥
    no_cell c requestor state e at none has = false≢true (sym none ∙ (sym (ap (λ (z : State). is_some (action_of e z)) (state_is c requestor state at)) ∙ has))

    not_asking : link.receiver_connected ≡ true → has_cell AbortRequest k.receiver.core ≡ true → link.stage ≢ Asking
    not_asking on has e = (let h : IsReceiver true Asking link.caller k.receiver.core = subst (λ (st : Stage). IsReceiver true st link.caller k.receiver.core) e (ron on) in
        no_cell k.receiver.core false Sta2 AbortRequest h.0 refl has)

    pub receiver_aborted : has_cell AbortRequest k.receiver.core ≡ true → (at : Moment) → at.now ≡ w.time → (x : Effect) (t : Desk) → Reacts (LedgerStep plan link.receiver) k.receiver.core (at_moment at AbortAsked) (b.desks link.receiver) x t → ReceiverOutcome (Abort number Acceptor) t (receiver_did k x)
    receiver_aborted has at time x t r = elim (cases_Bool link.receiver_connected) [
      | inl on ↦ inl (BreakReceiver number, refl, receiver_leaves plan certificate w number link k (b.desks link.receiver) here (s.desks link.receiver) shows on at time AbortAsked (inr refl) (λ e. not_asking on has) x t r)
      | inr off ↦ off_receiver (Abort number Acceptor) (λ o. o) at AbortAsked x t off r
    ]

    -- ---- late marks

    pub caller_late : is_late k.caller.core b.time ≡ true → (at : Moment) → at.now ≡ w.time → (x : Effect) (t : Desk) → Reacts (LedgerStep plan link.caller) k.caller.core (at_moment at LateMark) (b.desks link.caller) x t → CallerOutcome (Late number Requestor) t (caller_did k x)
    caller_late acts_late at time x t r = elim (cases_Bool link.caller_connected) [
      | inl on ↦ elim (late_at_caller plan certificate w number link k (b.desks link.caller) here (s.desks link.caller) shows on at time x t r) [
        | inl a ↦ inl (BreakCaller number a.0, refl, a.1)
        | inr a ↦ absurd (false≢true (sym a.2 ∙ (ap (λ (m : ℕ). is_late k.caller.core m) (time ∙ s.time) ∙ acts_late)))
      ]
      | inr off ↦ off_caller (Late number Requestor) (λ o. o) at LateMark x t off r
    ]

    pub receiver_late : is_late k.receiver.core b.time ≡ true → (at : Moment) → at.now ≡ w.time → (x : Effect) (t : Desk) → Reacts (LedgerStep plan link.receiver) k.receiver.core (at_moment at LateMark) (b.desks link.receiver) x t → ReceiverOutcome (Late number Acceptor) t (receiver_did k x)
    receiver_late acts_late at time x t r = elim (cases_Bool link.receiver_connected) [
      | inl on ↦ elim (late_at_receiver plan certificate w number link k (b.desks link.receiver) here (s.desks link.receiver) shows on at time x t r) [
        | inl a ↦ inl (BreakReceiver number, refl, a)
        | inr a ↦ absurd (false≢true (sym a.2 ∙ (ap (λ (m : ℕ). is_late k.receiver.core m) (time ∙ s.time) ∙ acts_late)))
      ]
      | inr off ↦ off_receiver (Late number Acceptor) (λ o. o) at LateMark x t off r
    ]

    -- ---- a release

    idle_pends_none : is_idle k.caller.core ≡ true → (p : Pending) → k.caller.core.pending ≡ Some p → ⊥
    idle_pends_none h p has =
        let n = (and_parts (is_requestor k.caller.core) (not (is_some k.caller.core.pending)) h).1 in
        let f : false ≡ true = subst (λ (o : Option Pending). not (is_some o) ≡ true) has n in
        false≢true f

    -- an end that is off has no cell for it
    off_cannot : link.caller_connected ≡ false → has_cell ReleaseRequest k.caller.core ≡ true → ⊥
    off_cannot off cell_there = by_off (subst (λ (z : Bool). IsCaller z link.stage link.receiver k.caller.core) off shows.caller)
      where
        by_off : IsOff k.caller.core true → ⊥
        by_off (free, inl none) = (
            let gone : state_of k.caller.core.phase ≡ Sta1 = ap (λ (o : Option Standing). option_map_or (λ (z : Standing). z.state) o Sta1) none in
            let is_none : is_some (action_of ReleaseRequest Sta1) ≡ false = refl in
            false≢true (sym is_none ∙ (sym (ap (λ (z : State). is_some (action_of ReleaseRequest z)) gone) ∙ cell_there)))
        by_off (free, inr (inl (side, inl at, awaits, none))) = no_cell k.caller.core true Sta7 ReleaseRequest at refl cell_there
        by_off (free, inr (inl (side, inr at, awaits, none))) = no_cell k.caller.core true Sta11 ReleaseRequest at refl cell_there
        by_off (free, inr (inr at)) = no_cell k.caller.core true Sta13 ReleaseRequest at refl cell_there

    pub caller_released : (is_idle k.caller.core && has_cell ReleaseRequest k.caller.core) ≡ true → (at : Moment) → at.now ≡ w.time → (x : Effect) (t : Desk)
        → Reacts (LedgerStep plan link.caller) k.caller.core (at_moment at ReleaseAsked) (b.desks link.caller) x t → CallerOutcome (Release number) t (caller_did k x)
    caller_released h at time x t r = elim (cases_Bool link.caller_connected) [
      | inl on ↦ by_stage on link.stage refl (con on)
      | inr off ↦ absurd (off_cannot off both.1)
    ]
      where
        both : (is_idle k.caller.core ≡ true) × (has_cell ReleaseRequest k.caller.core ≡ true)
        both = and_parts (is_idle k.caller.core) (has_cell ReleaseRequest k.caller.core) h

        by_stage : link.caller_connected ≡ true → (stage : Stage) → link.stage ≡ stage → IsCaller true stage link.receiver k.caller.core → CallerOutcome (Release number) t (caller_did k x)
        by_stage on (OpenStage accepted) e c = inl (BreakCaller number None, refl, release_leaves plan certificate w number link k (b.desks link.caller) here (s.desks link.caller) shows on accepted e at time x t r)
        by_stage on Asking e c = absurd (no_cell k.caller.core true Sta5 ReleaseRequest c.0 refl both.1)
        by_stage on (Answering accepted) e c = absurd (no_cell k.caller.core true Sta5 ReleaseRequest c.0 refl both.1)
        by_stage on Rejecting e c = absurd (no_cell k.caller.core true Sta5 ReleaseRequest c.0 refl both.1)
        by_stage on (Storing accepted item) e c = absurd (idle_pends_none both.0 _ c.1.2)
        by_stage on (Replying accepted item status) e c = absurd (idle_pends_none both.0 _ c.1.2)
        by_stage on Gone e c = absurd c

    -- ---- a push

    asking_sends_none : (receiver : Text) → Rattle.dr_world_tie.specs.Channels.IsAsking k.caller.core receiver → is_free k.caller.core ≡ true → ⊥
    asking_sends_none receiver asking ready = false≢true (sym asking.6 ∙ (and_parts (is_idle k.caller.core) (may_send k.caller.core.phase) ready).1)

    pub caller_pushed : is_free k.caller.core ≡ true → (at : Moment) → at.now ≡ w.time → (x : Effect) (t : Desk)
        → Reacts (LedgerStep plan link.caller) k.caller.core (at_moment at PushAsked) (b.desks link.caller) x t → ∥ CallerOutcome (Push number) t (caller_did k x) ∥₁
    caller_pushed ready at time x t r = elim (cases_Bool link.caller_connected) [
      | inl on ↦ by_stage on link.stage refl (con on)
      | inr off ↦ ∣ off_caller (Push number) (λ o. inl o) at PushAsked x t off r ∣₁
    ]
      where
        idle : is_idle k.caller.core ≡ true
        idle = (and_parts (is_idle k.caller.core) (may_send k.caller.core.phase) ready).0

        by_stage : link.caller_connected ≡ true → (stage : Stage) → link.stage ≡ stage → IsCaller true stage link.receiver k.caller.core → ∥ CallerOutcome (Push number) t (caller_did k x) ∥₁
        by_stage on (OpenStage accepted) e c = elim (push_gives plan certificate certified w number link k (b.desks link.caller) here (s.desks link.caller) shows on accepted e at time x t r) [
          | inl given ↦ ∥∥₁_map given (λ g. inl (Give number g.0, refl, g.1))
          | inr more ↦ elim more [
            | inl broke ↦ ∣ inl (BreakCaller number None, refl, broke) ∣₁
            | inr rest ↦ elim rest [
              | inl passed ↦ ∣ inl (PassOver number passed.0, refl, passed.1) ∣₁
              | inr none ↦ ∣ inr (none.0, none.1, inr (link, here, none.2)) ∣₁
            ]
          ]
        ]
        by_stage on Asking e c = absurd (asking_sends_none link.receiver c ready)
        by_stage on (Answering accepted) e c = absurd (asking_sends_none link.receiver c ready)
        by_stage on Rejecting e c = absurd (asking_sends_none link.receiver c ready)
        by_stage on (Storing accepted item) e c = absurd (idle_pends_none idle _ c.1.2)
        by_stage on (Replying accepted item status) e c = absurd (idle_pends_none idle _ c.1.2)
        by_stage on Gone e c = absurd c

    -- ---- bytes

    few_of : (n m left : ℕ) (D : Type 0) → (m ≡ n) ⊎ (m ≡ left) → (m < left) ⊎ D → (n < left) ⊎ D
    few_of n m left D which (inr value) = inr value
    few_of n m left D (inl same) (inl less) = inl (subst (λ (z : ℕ). z < left) same less)
    few_of n m left D (inr all) (inl less) = absurd (omega (arith, all, less))

    some_wire : (x : ℕ) (xs wire : List ℕ) → wire ≡ x ∷ xs → wire ≢ []
    some_wire x xs wire e f = (let g : x ∷ xs ≡ [] = sym e ∙ f in cc g)

    caller_heard : (note : StepNote) (n : ℕ) (new : ByteWorld) → k.to_caller ≢ [] → CallerHears plan b number k n new → Result_of b (Move number Requestor n) note w new
    caller_heard note n new some (m, at, ear, x, t, moved, moment, p, is) =
        let q : PlaysBytes (LedgerStep plan link.caller) at k.caller.ear k.caller.core (take m k.to_caller) (b.desks link.caller) ear x t =
        subst (λ (z : Text). PlaysBytes (LedgerStep plan z) at k.caller.ear k.caller.core (take m k.to_caller) (b.desks z) ear x t) from_is p in
        let o : CallerOutcome (Move number Requestor n) t (caller_read k m ear x) = elim (cases_Bool link.caller_connected) [
          | inl on ↦ (
              let f = caller_moves plan certificate certified w number link k (b.desks link.caller) here (s.desks link.caller) shows on some at (now_is (caller_of k) at moment) in
              elim (f.3 m (moved.1 f.0 f.1 f.2).0 ear x t q) [
                | inl a ↦ inl (a.0, a.1, a.3)
                | inr a ↦ inr (a.0, a.1, inr (k, has, (f.0, f.1, f.2, few_of n m (length f.1) (IsData f.0) (moved.1 f.0 f.1 f.2).1 a.2)))
              ])
          | inr off ↦ (let h = (off_caller_is_no_event (LedgerStep plan link.caller) plan certificate link k shows off (b.desks link.caller) t x).1 at m ear q in inr (h.0, h.1, inl (link, here, off)))
        ] in
        subst (λ (c : ByteWorld). Result_of b (Move number Requestor n) note w c) (sym is) (comes (Move number Requestor n) note b w number link link.caller (caller_of k) t (caller_read k m ear x) s here from_is o)

    receiver_heard : (note : StepNote) (n : ℕ) (new : ByteWorld) → k.to_receiver ≢ [] → ReceiverHears plan b number k n new → Result_of b (Move number Acceptor n) note w new
    receiver_heard note n new some (m, at, ear, x, t, moved, moment, p, is) =
        let q : PlaysBytes (LedgerStep plan link.receiver) at k.receiver.ear k.receiver.core (take m k.to_receiver) (b.desks link.receiver) ear x t =
        subst (λ (z : Text). PlaysBytes (LedgerStep plan z) at k.receiver.ear k.receiver.core (take m k.to_receiver) (b.desks z) ear x t) to_is p in
        let others_is : at.others ≡ others w number link.receiver =
        moment.1.2 ∙ ap (λ (l : List ℕ). length l) (same_others plan certificate b w number (receiver_of k) moment.1.0 s moment.1.1) ∙ ap (λ (z : Text). others w number z) to_is in
        let o : ReceiverOutcome (Move number Acceptor n) t (receiver_read k m ear x) = elim (cases_Bool link.receiver_connected) [
          | inl on ↦ (
              let f = receiver_moves plan certificate certified w number link k (b.desks link.receiver) here (s.desks link.receiver) shows on some at (now_is (receiver_of k) at moment) others_is in
              elim (f.3 m (moved.1 f.0 f.1 f.2).0 ear x t q) [
                | inl a ↦ inl (a.0, a.1, a.3)
                | inr a ↦ inr (a.0, a.1, inr (k, has, (f.0, f.1, f.2, few_of n m (length f.1) (IsData f.0) (moved.1 f.0 f.1 f.2).1 a.2)))
              ])
          | inr off ↦ (let h = (off_receiver_is_no_event (LedgerStep plan link.receiver) plan certificate link k shows off (b.desks link.receiver) t x).1 at m ear q in inr (h.0, h.1, inl (link, here, off)))
        ] in
        subst (λ (c : ByteWorld). Result_of b (Move number Acceptor n) note w c) (sym is) (comes (Move number Acceptor n) note b w number link link.receiver (receiver_of k) t (receiver_read k m ear x) s here to_is o)

    does_if : (step : WorldStep) (yes_do : Bool) (note : StepNote) (new : ByteWorld) (What : Type 0) → (yes_do ≡ true → What → ∥ Result_of b step note w new ∥₁) → DoesIf yes_do b note new What → ∥ Result_of b step note w new ∥₁
    does_if step true note new What f h = f refl h.1
    does_if step false note new What f h = ∣ skips step b new w note s h ∣₁

    caller_reads : (n : ℕ) (note : StepNote) (new : ByteWorld) (wire : List ℕ) → k.to_caller ≡ wire → CallerReads wire plan b number k n note new → ∥ Result_of b (Move number Requestor n) note w new ∥₁
    caller_reads n note new [] e h = does_if (Move number Requestor n) (nat_le 1 n && is_over k.receiver.core) note new (CallerMeets plan b number k Ended new)
        (λ o m. caller_met (Move number Requestor n) note Ended new (λ at time x t r. ∣ caller_ended (Move number Requestor n) (λ answer. refl) (λ o. inl o) at time x t r ∣₁) m) h
    caller_reads n note new (y ∷ ys) e h = does_if (Move number Requestor n) (nat_le 1 n) note new (CallerHears plan b number k n new) (λ o m. ∣ caller_heard note n new (some_wire y ys k.to_caller e) m ∣₁) h

    receiver_reads : (n : ℕ) (note : StepNote) (new : ByteWorld) (wire : List ℕ) → k.to_receiver ≡ wire → ReceiverReads wire plan b number k n note new → ∥ Result_of b (Move number Acceptor n) note w new ∥₁
    receiver_reads n note new [] e h = does_if (Move number Acceptor n) (nat_le 1 n && is_over k.caller.core) note new (ReceiverMeets plan b number k Ended new)
        (λ o m. receiver_met (Move number Acceptor n) note Ended new (λ at time x t r. ∣ receiver_ended (Move number Acceptor n) refl (λ o. inl o) at time x t r ∣₁) m) h
    receiver_reads n note new (y ∷ ys) e h = does_if (Move number Acceptor n) (nat_le 1 n) note new (ReceiverHears plan b number k n new) (λ o m. ∣ receiver_heard note n new (some_wire y ys k.to_receiver e) m ∣₁) h

    reads_if : (step : WorldStep) (over : Bool) (note : StepNote) (new : ByteWorld) (What : Type 0) → (What → ∥ Result_of b step note w new ∥₁) → ReadsIf over b note new What → ∥ Result_of b step note w new ∥₁
    reads_if step true note new What f h = ∣ skips step b new w note s h ∣₁
    reads_if step false note new What f h = f h

    pub moved : (side : Side) (n : ℕ) (note : StepNote) (new : ByteWorld) → Moves plan b number k side n note new → ∥ Result_of b (Move number side n) note w new ∥₁
    moved Requestor n note new h = reads_if (Move number Requestor n) (is_over k.caller.core) note new (CallerReads k.to_caller plan b number k n note new) (λ m. caller_reads n note new k.to_caller refl m) h
    moved Acceptor n note new h = reads_if (Move number Acceptor n) (is_over k.receiver.core) note new (ReceiverReads k.to_receiver plan b number k n note new) (λ m. receiver_reads n note new k.to_receiver refl m) h

    pub pushed : (note : StepNote) (new : ByteWorld) (ready : Bool) → is_free k.caller.core ≡ ready → PushesIf ready plan b number k note new → ∥ Result_of b (Push number) note w new ∥₁
    pushed note new false e h = ∣ skips (Push number) b new w note s h ∣₁
    pushed note new true ready (at, x, t, m, noted, r, is) = caller_met (Push number) note PushAsked new (λ at time x t r. caller_pushed ready at time x t r) (at, x, t, m, r, is)

    pub released : (note : StepNote) (new : ByteWorld) → DoesIf (is_idle k.caller.core && has_cell ReleaseRequest k.caller.core) b note new (CallerMeets plan b number k ReleaseAsked new) → ∥ Result_of b (Release number) note w new ∥₁
    released note new h = does_if (Release number) (is_idle k.caller.core && has_cell ReleaseRequest k.caller.core) note new (CallerMeets plan b number k ReleaseAsked new)
        (λ idle m. caller_met (Release number) note ReleaseAsked new (λ at time x t r. ∣ caller_released idle at time x t r ∣₁) m) h

    pub aborted : (side : Side) (note : StepNote) (new : ByteWorld) → DoesIf (has_cell AbortRequest (Rattle.dr_world_tie.specs.ByteWorlds.core_at k side)) b note new (Meets plan b number k side AbortAsked new) → ∥ Result_of b (Abort number side) note w new ∥₁
    aborted Requestor note new h = does_if (Abort number Requestor) (has_cell AbortRequest k.caller.core) note new (CallerMeets plan b number k AbortAsked new)
        (λ has m. caller_met (Abort number Requestor) note AbortAsked new (λ at time x t r. ∣ caller_aborted at time x t r ∣₁) m) h
    aborted Acceptor note new h = does_if (Abort number Acceptor) (has_cell AbortRequest k.receiver.core) note new (ReceiverMeets plan b number k AbortAsked new)
        (λ has m. receiver_met (Abort number Acceptor) note AbortAsked new (λ at time x t r. ∣ receiver_aborted has at time x t r ∣₁) m) h

    pub delayed : (side : Side) (note : StepNote) (new : ByteWorld) → DoesIf (acts_late (Rattle.dr_world_tie.specs.ByteWorlds.core_at k side) b.time) b note new (Meets plan b number k side LateMark new) → ∥ Result_of b (Late number side) note w new ∥₁
    delayed Requestor note new h = does_if (Late number Requestor) (acts_late k.caller.core b.time) note new (CallerMeets plan b number k LateMark new)
        (λ late m. caller_met (Late number Requestor) note LateMark new (λ at time x t r. ∣ caller_late (was_late k.caller.core b.time late) at time x t r ∣₁) m) h
    delayed Acceptor note new h = does_if (Late number Acceptor) (acts_late k.receiver.core b.time) note new (ReceiverMeets plan b number k LateMark new)
        (λ late m. receiver_met (Late number Acceptor) note LateMark new (λ at time x t r. ∣ receiver_late (was_late k.receiver.core b.time late) at time x t r ∣₁) m) h
