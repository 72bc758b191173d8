-- What happens at one end of a link between two of ours, in a world of messages in which others may
-- do what they want.
use Rattle.std.proofs.Common.{◌≡◌, ◌≢◌, ◌⊎◌, ℕ, Bool, true, false, List, [], ◌∷◌, take, Option, Some, None, refl, sym, ap, subst, ◌∙◌, inl, inr, arith}
use Rattle.std.proofs.Math.Logic.{∥∥₁_map}
use Rattle.std.specs.Prelude.{◌&&◌, not, is_some}
use Rattle.std.specs.Option.{option_map_or}
use Rattle.std.proofs.lemmas.Bool.{false≢true, cases_Bool, and_parts}
use Rattle.dr_base.specs.Texts.{Text}
use Rattle.dr_plan_model.specs.Networks.{Network}
use Rattle.dr_plan_sound.specs.declared.certificate.Certificate.{Certificate}
use Rattle.dr_site.specs.Sites.{IsCertified}
use Rattle.dr_ulstate.specs.declared.table.State.{State}
use Rattle.dr_ulstate.specs.declared.table.State.TheVariants.{Sta1, Sta2, Sta5, Sta7, Sta11, Sta13}
use Rattle.dr_ulstate.specs.declared.table.Event.{Event as UpperEvent}
use Rattle.dr_ulstate.specs.declared.table.Event.TheVariants.{AbortRequest, ReleaseRequest}
use Rattle.dr_ulstate.specs.Table.{action_of}
use Rattle.dr_ulstate.specs.Standing.{Standing}
use Rattle.dr_ulstate.specs.Phases.{state_of, may_send}
use Rattle.dr_pdu.specs.Feeding.{Feeding}
use Rattle.dr_session.specs.declared.ends.Core.{Core}
use Rattle.dr_session.specs.declared.ends.Effect.{Effect}
use Rattle.dr_session.specs.declared.ends.Input.{Input}
use Rattle.dr_session.specs.declared.ends.Input.TheVariants as input
use Rattle.dr_session.specs.declared.ends.Moment.{Moment}
use Rattle.dr_session.specs.declared.ends.Pending.{Pending}
use Rattle.dr_session.specs.Plays.{Reacts, PlaysBytes, at_moment}
use Rattle.dr_session.specs.Reactions.{is_idle, is_free, is_requestor}
use Rattle.dr_world_model.specs.Worlds.{World, Link, Stage, Asking, Answering, Rejecting, Open, Storing, Replying, Gone}
use Rattle.dr_world_model.specs.Steps.{IsLink, others}
use Rattle.dr_world_model.specs.Events.{Event, Take, Ask, AgreeReceiver, AgreeCaller, Give, PassOver, Receive, Answered, BreakCaller, BreakReceiver, Close, Restart, Requeue, Drop, StayAway, Forget, Refuse, Tick}
use Rattle.dr_world_model.specs.Among.{Ours, Act, Own, RunsAmong, ArrivesAtOurs}
use Rattle.dr_world_tie.specs.Desks.{Desk, LedgerStep}
use Rattle.dr_world_tie.specs.Channels.{Channel, ShowsLink, IsCaller, IsReceiver, IsAt, IsOff, IsAsking}
use Rattle.dr_world_tie.specs.Ties.{IsDeskOf, Happens, OnlyHere, caller_did, receiver_did, caller_read, receiver_read}
use Rattle.dr_world_tie.specs.Moves.{IsOfCaller, IsOfReceiver}
use Rattle.dr_world_tie.specs.ByteWorlds.{Requestor, Acceptor, has_cell}
use Rattle.dr_world_tie.specs.Foreign.{OnlyOf}
use Rattle.dr_world_tie.specs.MixedWorlds.{IsWithinFront, MayAsk}
use Rattle.dr_world_tie.proofs.Others.{state_is}
use Rattle.dr_world_tie.proofs.Foreigners.{one_link, only_none}
use Rattle.dr_world_tie.proofs.Shown.{idle_caller, idle_receiver}
use Rattle.dr_world_tie.proofs.CallerLeaving.{caller_leaves, late_at_caller, release_leaves}
use Rattle.dr_world_tie.proofs.Leaving.{receiver_leaves, late_at_receiver}
use Rattle.dr_world_tie.proofs.Closing.{off_caller_is_no_event, off_receiver_is_no_event}
use Rattle.dr_world_tie.proofs.Moves.{caller_moves, receiver_moves}
use Rattle.dr_world_tie.proofs.Pushing.{push_gives}

-- ---- what the table has no cell for

no_cell : (c : Core) (requestor : Bool) (state : State) (e : UpperEvent) → IsAt c requestor state → is_some (action_of e state) ≡ false → has_cell e c ≡ true → ⊥
no_cell c requestor state e at none has = false≢true (sym none ∙ (sym (ap (λ (z : State). is_some (action_of e z)) (state_is c requestor state at)) ∙ has))

not_asking : (stage : Stage) (caller : Text) (c : Core) → IsReceiver true stage caller c → has_cell AbortRequest c ≡ true → stage ≢ Asking
not_asking stage caller c h has e = (let a : IsReceiver true Asking caller c = subst (λ (st : Stage). IsReceiver true st caller c) e h in
    no_cell c false Sta2 AbortRequest a.0 refl has)

idle_pends_none : (c : Core) → is_idle c ≡ true → (p : Pending) → c.pending ≡ Some p → ⊥
idle_pends_none c h p has =
    let n = (and_parts (is_requestor c) (not (is_some c.pending)) h).1 in
    let f : false ≡ true = subst (λ (o : Option Pending). not (is_some o) ≡ true) has n in
    false≢true f

-- an end that is off can't ask for the release
off_cannot : (c : Core) → IsOff c true → has_cell ReleaseRequest c ≡ true → ⊥
off_cannot c (free, inl none) cell_there = (
    let gone : state_of c.phase ≡ Sta1 = ap (λ (o : Option Standing). option_map_or (λ (z : Standing). z.state) o Sta1) none in
    let is_none : is_some (action_of ReleaseRequest Sta1) ≡ false = refl in
    false≢true (sym is_none ∙ (sym (ap (λ (z : State). is_some (action_of ReleaseRequest z)) gone) ∙ cell_there)))
off_cannot c (free, inr (inl (side, inl at, awaits, none))) cell_there = no_cell c true Sta7 ReleaseRequest at refl cell_there
off_cannot c (free, inr (inl (side, inr at, awaits, none))) cell_there = no_cell c true Sta11 ReleaseRequest at refl cell_there
off_cannot c (free, inr (inr at)) cell_there = no_cell c true Sta13 ReleaseRequest at refl cell_there

asking_sends_none : (c : Core) (receiver : Text) → IsAsking c receiver → is_free c ≡ true → ⊥
asking_sends_none c receiver asking ready = false≢true (sym asking.6 ∙ (and_parts (is_idle c) (may_send c.phase) ready).1)

-- ---- an event, or none

-- Acts lead to a world in which the channel is the link of that number; only that link and the book
-- of that node are others.
pub record Lands (ours : Ours) (plan : Network) (certificate : Certificate) (w : World) (number : ℕ) (name : Text) (t : Desk) (k : Channel) : Type 0 where
  pub acts : List Act
  pub after : World
  pub link : Link
  pub runs : RunsAmong ours plan w acts plan after
  pub only : OnlyOf w after (Some number) name
  pub desk : IsDeskOf after name t
  pub here : IsLink after number link
  pub shows : ShowsLink plan certificate k link

module _ (ours : Ours) (plan : Network) (certificate : Certificate) where
  only_here : (w v : World) (number : ℕ) (name : Text) → OnlyHere w v number name → OnlyOf w v (Some number) name
  only_here w v number name o = record {
    books = o.books;
    links = λ other apart. o.links other (λ same. apart (ap (λ (n : ℕ). Some n) (sym same)));
    armed = o.armed;
    rest = (o.rest.0, o.rest.1);
    opened = (let e : v.opened ≡ w.opened = o.rest.2 in omega (arith, e));
  }

  happened : (w : World) (number : ℕ) (event : Event) (name : Text) (t : Desk) (k : Channel) → ArrivesAtOurs ours w event → Happens plan certificate w number event name t k → Lands ours plan certificate w number name t k
  happened w number event name t k arrives h = record {
    acts = Own event ∷ [];
    after = h.after;
    link = h.link;
    runs = (arrives, (h.after, h.step, (refl, refl)));
    only = only_here w h.after number name h.only;
    desk = h.desk;
    here = h.here;
    shows = h.shows;
  }

  unmoved : (w : World) (number : ℕ) (link : Link) (name : Text) (s t : Desk) (k : Channel) → IsLink w number link → IsDeskOf w name s → t ≡ s → ShowsLink plan certificate k link → Lands ours plan certificate w number name t k
  unmoved w number link name s t k here at same shows = record {
    acts = [];
    after = w;
    link = link;
    runs = (refl, refl);
    only = only_none w (Some number) name;
    desk = subst (λ (d : Desk). IsDeskOf w name d) (sym same) at;
    here = here;
    shows = shows;
  }

  -- what a caller does is no arrival
  of_caller : (w : World) (number : ℕ) (event : Event) → IsOfCaller number event → ArrivesAtOurs ours w event
  of_caller w number (AgreeCaller link answer) h = tt
  of_caller w number (Answered link answer) h = tt
  of_caller w number (BreakCaller link answer) h = tt
  of_caller w number (Take node item reply) h = absurd h
  of_caller w number (Ask caller receiver) h = absurd h
  of_caller w number (AgreeReceiver link answer) h = absurd h
  of_caller w number (PassOver link answer) h = absurd h
  of_caller w number (Give link answer) h = absurd h
  of_caller w number (Receive link reply) h = absurd h
  of_caller w number (BreakReceiver link) h = absurd h
  of_caller w number (Close link answer) h = absurd h
  of_caller w number (Restart node answers) h = absurd h
  of_caller w number (Requeue node uid dest answer) h = absurd h
  of_caller w number (Drop node uid dest answer) h = absurd h
  of_caller w number (StayAway node uid dest answer) h = absurd h
  of_caller w number (Forget node uid answer) h = absurd h
  of_caller w number (Refuse node) h = absurd h
  of_caller w number (Tick ms) h = absurd h

  -- what a receiver does is one at most at its node
  of_receiver : (w : World) (number : ℕ) (event : Event) → IsOfReceiver number event → ((link : Link) → IsLink w number link → ours link.receiver ≡ true) → ArrivesAtOurs ours w event
  of_receiver w number (Receive at reply) h its = λ link here. its link (subst (λ (n : ℕ). IsLink w n link) h here)
  of_receiver w number (AgreeReceiver link answer) h its = tt
  of_receiver w number (BreakReceiver link) h its = tt
  of_receiver w number (Take node item reply) h its = absurd h
  of_receiver w number (Ask caller receiver) h its = absurd h
  of_receiver w number (AgreeCaller link answer) h its = absurd h
  of_receiver w number (PassOver link answer) h its = absurd h
  of_receiver w number (Give link answer) h its = absurd h
  of_receiver w number (Answered link answer) h its = absurd h
  of_receiver w number (BreakCaller link answer) h its = absurd h
  of_receiver w number (Close link answer) h its = absurd h
  of_receiver w number (Restart node answers) h its = absurd h
  of_receiver w number (Requeue node uid dest answer) h its = absurd h
  of_receiver w number (Drop node uid dest answer) h its = absurd h
  of_receiver w number (StayAway node uid dest answer) h its = absurd h
  of_receiver w number (Forget node uid answer) h its = absurd h
  of_receiver w number (Refuse node) h its = absurd h
  of_receiver w number (Tick ms) h its = absurd h

  module _ (certified : IsCertified plan certificate) (w : World) (number : ℕ) (link : Link) (k : Channel) (here : IsLink w number link) (shows : ShowsLink plan certificate k link) where
    calls_on : link.caller_connected ≡ true → IsCaller true link.stage link.receiver k.caller.core
    calls_on on = subst (λ (z : Bool). IsCaller z link.stage link.receiver k.caller.core) on shows.caller

    calls_off : link.caller_connected ≡ false → IsOff k.caller.core true
    calls_off off = subst (λ (z : Bool). IsCaller z link.stage link.receiver k.caller.core) off shows.caller

    listens_on : link.receiver_connected ≡ true → IsReceiver true link.stage link.caller k.receiver.core
    listens_on on = subst (λ (z : Bool). IsReceiver z link.stage link.caller k.receiver.core) on shows.receiver

    -- ---- the caller

    module _ (s : Desk) (at_desk : IsDeskOf w link.caller s) (at : Moment) (time : at.now ≡ w.time) (x : Effect) (t : Desk) where
      abbrev CallerLands : Channel → Type 0
      CallerLands l = Lands ours plan certificate w number link.caller t l

      off_caller : (i : Input) → link.caller_connected ≡ false → Reacts (LedgerStep plan link.caller) k.caller.core (at_moment at i) s x t → CallerLands (caller_did k x)
      off_caller i off r =
          let h = (off_caller_is_no_event (LedgerStep plan link.caller) plan certificate link k shows off s t x).0 (at_moment at i) r in
          unmoved w number link link.caller s t (caller_did k x) here at_desk h.0 h.1

      caller_left : (i : Input) → (i ≡ input.Ended) ⊎ (i ≡ input.AbortAsked) → Reacts (LedgerStep plan link.caller) k.caller.core (at_moment at i) s x t → CallerLands (caller_did k x)
      caller_left i leaving r = elim (cases_Bool link.caller_connected) [
        | inl on ↦ (let a = caller_leaves plan certificate w number link k s here at_desk shows on at time i leaving x t r in happened w number (BreakCaller number a.0) link.caller t (caller_did k x) tt a.1)
        | inr off ↦ off_caller i off r
      ]

      caller_late : Reacts (LedgerStep plan link.caller) k.caller.core (at_moment at input.Late) s x t → CallerLands (caller_did k x)
      caller_late r = elim (cases_Bool link.caller_connected) [
        | inl on ↦ elim (late_at_caller plan certificate w number link k s here at_desk shows on at time x t r) [
          | inl a ↦ happened w number (BreakCaller number a.0) link.caller t (caller_did k x) tt a.1
          | inr a ↦ unmoved w number link link.caller s t (caller_did k x) here at_desk a.0
              (subst (λ (y : Effect). ShowsLink plan certificate (caller_did k y) link) (sym a.1) (idle_caller plan certificate link k shows))
        ]
        | inr off ↦ off_caller input.Late off r
      ]

      caller_released : (is_idle k.caller.core && has_cell ReleaseRequest k.caller.core) ≡ true → Reacts (LedgerStep plan link.caller) k.caller.core (at_moment at input.ReleaseAsked) s x t → CallerLands (caller_did k x)
      caller_released h r = elim (cases_Bool link.caller_connected) [
        | inl on ↦ by_stage on link.stage refl (calls_on on)
        | inr off ↦ absurd (off_cannot k.caller.core (calls_off off) both.1)
      ]
        where
          both : (is_idle k.caller.core ≡ true) × (has_cell ReleaseRequest k.caller.core ≡ true)
          both = and_parts (is_idle k.caller.core) (has_cell ReleaseRequest k.caller.core) h

          by_stage : link.caller_connected ≡ true → (stage : Stage) → link.stage ≡ stage → IsCaller true stage link.receiver k.caller.core → CallerLands (caller_did k x)
          by_stage on (Open accepted) e c = happened w number (BreakCaller number None) link.caller t (caller_did k x) tt
              (release_leaves plan certificate w number link k s here at_desk shows on accepted e at time x t r)
          by_stage on Asking e c = absurd (no_cell k.caller.core true Sta5 ReleaseRequest c.0 refl both.1)
          by_stage on (Answering accepted) e c = absurd (no_cell k.caller.core true Sta5 ReleaseRequest c.0 refl both.1)
          by_stage on Rejecting e c = absurd (no_cell k.caller.core true Sta5 ReleaseRequest c.0 refl both.1)
          by_stage on (Storing accepted item) e c = absurd (idle_pends_none k.caller.core both.0 _ c.1.2)
          by_stage on (Replying accepted item status) e c = absurd (idle_pends_none k.caller.core both.0 _ c.1.2)
          by_stage on Gone e c = absurd c

      caller_pushed : is_free k.caller.core ≡ true → Reacts (LedgerStep plan link.caller) k.caller.core (at_moment at input.PushAsked) s x t → ∥ CallerLands (caller_did k x) ∥₁
      caller_pushed ready r = elim (cases_Bool link.caller_connected) [
        | inl on ↦ by_stage on link.stage refl (calls_on on)
        | inr off ↦ ∣ off_caller input.PushAsked off r ∣₁
      ]
        where
          idle : is_idle k.caller.core ≡ true
          idle = (and_parts (is_idle k.caller.core) (may_send k.caller.core.phase) ready).0

          by_stage : link.caller_connected ≡ true → (stage : Stage) → link.stage ≡ stage → IsCaller true stage link.receiver k.caller.core → ∥ CallerLands (caller_did k x) ∥₁
          by_stage on (Open accepted) e c = elim (push_gives plan certificate certified w number link k s here at_desk shows on accepted e at time x t r) [
            | inl given ↦ ∥∥₁_map given (λ g. happened w number (Give number g.0) link.caller t (caller_did k x) tt g.1)
            | inr more ↦ elim more [
              | inl broke ↦ ∣ happened w number (BreakCaller number None) link.caller t (caller_did k x) tt broke ∣₁
              | inr rest ↦ elim rest [
                | inl passed ↦ ∣ happened w number (PassOver number passed.0) link.caller t (caller_did k x) tt passed.1 ∣₁
                | inr none ↦ ∣ unmoved w number link link.caller s t (caller_did k x) here at_desk none.0 none.1 ∣₁
              ]
            ]
          ]
          by_stage on Asking e c = absurd (asking_sends_none k.caller.core link.receiver c ready)
          by_stage on (Answering accepted) e c = absurd (asking_sends_none k.caller.core link.receiver c ready)
          by_stage on Rejecting e c = absurd (asking_sends_none k.caller.core link.receiver c ready)
          by_stage on (Storing accepted item) e c = absurd (idle_pends_none k.caller.core idle _ c.1.2)
          by_stage on (Replying accepted item status) e c = absurd (idle_pends_none k.caller.core idle _ c.1.2)
          by_stage on Gone e c = absurd c

      pub caller_is_asked : (i : Input) → MayAsk Requestor k.caller.core i → Reacts (LedgerStep plan link.caller) k.caller.core (at_moment at i) s x t → ∥ CallerLands (caller_did k x) ∥₁
      caller_is_asked input.PushAsked may r = caller_pushed may r
      caller_is_asked input.ReleaseAsked may r = ∣ caller_released may r ∣₁
      caller_is_asked input.AbortAsked may r = ∣ caller_left input.AbortAsked (inr refl) r ∣₁
      caller_is_asked input.Ended may r = ∣ caller_left input.Ended (inl refl) r ∣₁
      caller_is_asked input.Late may r = ∣ caller_late r ∣₁
      caller_is_asked (input.Request rq) may r = absurd may
      caller_is_asked (input.Acceptance ac) may r = absurd may
      caller_is_asked (input.Rejection rj) may r = absurd may
      caller_is_asked (input.Value value) may r = absurd may
      caller_is_asked input.NoValue may r = absurd may
      caller_is_asked input.ReleaseRq may r = absurd may
      caller_is_asked input.ReleaseRp may r = absurd may
      caller_is_asked (input.Abort a) may r = absurd may
      caller_is_asked input.Unknown may r = absurd may
      caller_is_asked input.Invalid may r = absurd may

      pub caller_is_moved : (n : ℕ) (ear : Feeding) → k.to_caller ≢ [] → IsWithinFront k.caller k.to_caller n
          → PlaysBytes (LedgerStep plan link.caller) at k.caller.ear k.caller.core (take n k.to_caller) s ear x t → CallerLands (caller_read k n ear x)
      caller_is_moved n ear some within q = elim (cases_Bool link.caller_connected) [
        | inl on ↦ (
            let f = caller_moves plan certificate certified w number link k s here at_desk shows on some at time in
            elim (f.3 n (within f.0 f.1 f.2) ear x t q) [
              | inl a ↦ happened w number a.0 link.caller t (caller_read k n ear x) (of_caller w number a.0 a.1) a.3
              | inr a ↦ unmoved w number link link.caller s t (caller_read k n ear x) here at_desk a.0 a.1
            ])
        | inr off ↦ (let h = (off_caller_is_no_event (LedgerStep plan link.caller) plan certificate link k shows off s t x).1 at n ear q in
            unmoved w number link link.caller s t (caller_read k n ear x) here at_desk h.0 h.1)
      ]

    -- ---- the receiver, of ours

    module _ (its : ours link.receiver ≡ true) (r_desk : Desk) (at_r_desk : IsDeskOf w link.receiver r_desk) (moment : Moment) (on_time : moment.now ≡ w.time) (y : Effect) (u : Desk) where
      abbrev ReceiverLands : Channel → Type 0
      ReceiverLands l = Lands ours plan certificate w number link.receiver u l

      off_receiver : (i : Input) → link.receiver_connected ≡ false → Reacts (LedgerStep plan link.receiver) k.receiver.core (at_moment moment i) r_desk y u → ReceiverLands (receiver_did k y)
      off_receiver i off r =
          let h = (off_receiver_is_no_event (LedgerStep plan link.receiver) plan certificate link k shows off r_desk u y).0 (at_moment moment i) r in
          unmoved w number link link.receiver r_desk u (receiver_did k y) here at_r_desk h.0 h.1

      receiver_left : (i : Input) → (i ≡ input.Ended) ⊎ (i ≡ input.AbortAsked) → (i ≡ input.AbortAsked → has_cell AbortRequest k.receiver.core ≡ true)
          → Reacts (LedgerStep plan link.receiver) k.receiver.core (at_moment moment i) r_desk y u → ReceiverLands (receiver_did k y)
      receiver_left i leaving cell_there r = elim (cases_Bool link.receiver_connected) [
        | inl on ↦ happened w number (BreakReceiver number) link.receiver u (receiver_did k y) tt
            (receiver_leaves plan certificate w number link k r_desk here at_r_desk shows on moment on_time i leaving
            (λ e. not_asking link.stage link.caller k.receiver.core (listens_on on) (cell_there e)) y u r)
        | inr off ↦ off_receiver i off r
      ]

      receiver_late : Reacts (LedgerStep plan link.receiver) k.receiver.core (at_moment moment input.Late) r_desk y u → ReceiverLands (receiver_did k y)
      receiver_late r = elim (cases_Bool link.receiver_connected) [
        | inl on ↦ elim (late_at_receiver plan certificate w number link k r_desk here at_r_desk shows on moment on_time y u r) [
          | inl a ↦ happened w number (BreakReceiver number) link.receiver u (receiver_did k y) tt a
          | inr a ↦ unmoved w number link link.receiver r_desk u (receiver_did k y) here at_r_desk a.0
              (subst (λ (z : Effect). ShowsLink plan certificate (receiver_did k z) link) (sym a.1) (idle_receiver plan certificate link k shows))
        ]
        | inr off ↦ off_receiver input.Late off r
      ]

      pub receiver_is_asked : (i : Input) → MayAsk Acceptor k.receiver.core i → Reacts (LedgerStep plan link.receiver) k.receiver.core (at_moment moment i) r_desk y u → ReceiverLands (receiver_did k y)
      receiver_is_asked input.AbortAsked may r = receiver_left input.AbortAsked (inr refl) (λ e. may) r
      receiver_is_asked input.Ended may r = receiver_left input.Ended (inl refl) (λ e. absurd (cc e)) r
      receiver_is_asked input.Late may r = receiver_late r
      receiver_is_asked input.PushAsked may r = absurd may
      receiver_is_asked input.ReleaseAsked may r = absurd may
      receiver_is_asked (input.Request rq) may r = absurd may
      receiver_is_asked (input.Acceptance ac) may r = absurd may
      receiver_is_asked (input.Rejection rj) may r = absurd may
      receiver_is_asked (input.Value value) may r = absurd may
      receiver_is_asked input.NoValue may r = absurd may
      receiver_is_asked input.ReleaseRq may r = absurd may
      receiver_is_asked input.ReleaseRp may r = absurd may
      receiver_is_asked (input.Abort a) may r = absurd may
      receiver_is_asked input.Unknown may r = absurd may
      receiver_is_asked input.Invalid may r = absurd may

      pub receiver_is_moved : moment.others ≡ others w number link.receiver → (n : ℕ) (ear : Feeding) → k.to_receiver ≢ [] → IsWithinFront k.receiver k.to_receiver n
          → PlaysBytes (LedgerStep plan link.receiver) moment k.receiver.ear k.receiver.core (take n k.to_receiver) r_desk ear y u → ReceiverLands (receiver_read k n ear y)
      receiver_is_moved others_is n ear some within q = elim (cases_Bool link.receiver_connected) [
        | inl on ↦ (
            let f = receiver_moves plan certificate certified w number link k r_desk here at_r_desk shows on some moment on_time others_is in
            elim (f.3 n (within f.0 f.1 f.2) ear y u q) [
              | inl a ↦ happened w number a.0 link.receiver u (receiver_read k n ear y) (of_receiver w number a.0 a.1 (λ l found. subst (λ (z : Link). ours z.receiver ≡ true) (one_link w number link l here found) its)) a.3
              | inr a ↦ unmoved w number link link.receiver r_desk u (receiver_read k n ear y) here at_r_desk a.0 a.1
            ])
        | inr off ↦ (let h = (off_receiver_is_no_event (LedgerStep plan link.receiver) plan certificate link k shows off r_desk u y).1 moment n ear q in
            unmoved w number link link.receiver r_desk u (receiver_read k n ear y) here at_r_desk h.0 h.1)
      ]
