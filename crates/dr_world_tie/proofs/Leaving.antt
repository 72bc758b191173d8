-- An end leaves: it is a break in the message world.
use Rattle.std.proofs.Common.{◌≡◌, ◌≢◌, ℕ, Bool, true, false, List, [], ◌∷◌, ◌++◌, Option, Some, None, Result, refl, sym, ap, subst, ◌∙◌, append_assoc, inl, inr, ◌⊎◌, ◌<◌, ◌^◌}
use Rattle.std.specs.List.{AllByRecursion}
use Rattle.std.specs.FinMap as map_of
use Rattle.std.proofs.lemmas.List.{append-nil}
use Rattle.std.proofs.lemmas.Bool.{false≢true, cases_Bool}
use Rattle.std.specs.Prelude.{◌&&◌, ◌+◌, nat_le, if◌then◌else◌, ◌||◌}
use Rattle.std.specs.Option.{option_map_or}
use Rattle.dr_session.specs.declared.ends.LinkAction.TheVariants.{Close}
use Rattle.dr_base.specs.Texts.{Text}
use Rattle.dr_plan_model.specs.Networks.{Network}
use Rattle.dr_plan_sound.specs.declared.certificate.Certificate.{Certificate}
use Rattle.dr_ulstate.specs.declared.table.Action.{Action}
use Rattle.dr_ulstate.specs.declared.table.Action.TheVariants.{Aa1, Aa4, Aa5, Aa2}
use Rattle.dr_ulstate.specs.declared.table.Event.{Event as UpperEvent}
use Rattle.dr_ulstate.specs.declared.table.Event.TheVariants.{TransportClosed, AbortRequest, ArtimExpired}
use Rattle.dr_ulstate.specs.declared.table.State.{State}
use Rattle.dr_ulstate.specs.declared.table.State.TheVariants.{Sta1, Sta2, Sta6, Sta13}
use Rattle.dr_site.specs.Parts.{Part, IsPartOf}
use Rattle.dr_ulstate.specs.declared.phase.Next.{Next}
use Rattle.dr_ulstate.specs.declared.phase.Next.TheVariants.{Idle}
use Rattle.dr_ulstate.specs.Table.{cell}
use Rattle.dr_ulstate.specs.Standing.{Standing, moved, runs_artim, has_expired}
use Rattle.dr_ulstate.specs.Phases.{next_stepped, after_cell, in_its_phase, next_expired}
use Rattle.dr_pdu.specs.declared.pdu.Pdu.{Pdu}
use Rattle.dr_pdu.specs.Feeding.{Feeding}
use Rattle.dr_pdu.specs.Written.{Fits, MeetsLimit, written}
use Rattle.dr_pdu.proofs.WrittenLemmas.{others_fit}
use Rattle.dr_ledger.proofs.Maps.{get_new, get_other, same_or_not}
use Rattle.dr_world_model.proofs.Lookups.{numbers}
use Rattle.dr_world_model.specs.Worlds.{World, Link, Stage, Asking, Answering, Rejecting, Open, Storing, Replying, Gone, with_link, without_receiver}
use Rattle.dr_world_model.specs.Steps.{IsLink}
use Rattle.dr_world_model.specs.Events.{BreakReceiver}
use Rattle.dr_session.specs.declared.ends.Core.{Core}
use Rattle.dr_session.specs.declared.ends.Effect.{Effect}
use Rattle.dr_session.specs.declared.ends.Input.{Input}
use Rattle.dr_session.specs.declared.ends.Input.TheVariants.{Ended, AbortAsked, Late}
use Rattle.dr_session.specs.declared.ends.Pending.{Pending}
use Rattle.dr_session.specs.declared.ends.Told.{Told}
use Rattle.dr_session.specs.declared.ends.Told.TheVariants.{Plain}
use Rattle.dr_session.specs.declared.ends.LinkAction.{LinkAction}
use Rattle.dr_session.specs.Desks.{DeskCall, DeskAnswer}
use Rattle.dr_nego.specs.Fragments.{spellings}
use Rattle.dr_session.specs.declared.ends.Moment.{Moment}
use Rattle.dr_session.specs.Reactions.{turn, occurs, moves, acts, event_of, is_taken, leaves_by, left, aborted, effect, write, abort_pdu, has_waited, is_requestor}
use Rattle.dr_session.specs.Turns.{Turns}
use Rattle.dr_session.specs.Telling.{Looks, action_at, event_of_input}
use Rattle.dr_session.specs.Plays.{Reacts, at_moment, with_stage}
use Rattle.dr_dimse.specs.Taking.{MessageStage as Taken}
use Rattle.dr_world_tie.specs.Desks.{Desk, LedgerStep}
use Rattle.dr_world_tie.specs.Channels.{LiveTerminal, Channel, Carries, ShowsLink, ToCaller, IsReceiver, IsAt, IsOff, IsControl, bytes_of, AgreesOn, site_of, site_in}
use Rattle.dr_world_tie.specs.Ties.{IsDeskOf, OnlyHere, Happens, receiver_as, IsLeaving, ReceiverLeaves, LateAtReceiver, is_late}
use Rattle.dr_world_tie.proofs.Agreeing.{stepped_at}

-- ---- wires

pub all_append : {X : Type 0} (P : X → Type 0) (xs ys : List X) → AllByRecursion P xs → AllByRecursion P ys → AllByRecursion P (xs ++ ys)
all_append P [] ys h k = k
all_append P (x ∷ xs) ys h k = (h.0, all_append P xs ys h.1 k)

pub spellings_append : (ps qs : List Pdu) → spellings (ps ++ qs) ≡ spellings ps ++ spellings qs
spellings_append [] qs = refl
spellings_append (p ∷ ps) qs = ap (λ (l : List ℕ). written p ++ l) (spellings_append ps qs) ∙ sym (append_assoc (written p) (spellings ps) (spellings qs))

abbrev pub AreFit : ℕ → List Pdu → Type 0
AreFit limit pdus = AllByRecursion (λ p. Fits p × MeetsLimit limit p) pdus

-- what is written as an end leaves stands behind all else
pub carries_more : (t : LiveTerminal) (wire : List ℕ) (IsComing : List Pdu → Type 0) (on : Bool) → Carries t wire IsComing on → (pdus : List Pdu) → AllByRecursion IsControl pdus → AreFit t.ear.limit pdus
    → Carries t (wire ++ spellings pdus) IsComing false
carries_more t wire IsComing on c pdus control fits = record {
  coming = c.coming;
  is = c.is;
  controls = c.controls ++ pdus;
  joined = sym (append_assoc t.ear.kept wire (spellings pdus))
      ∙ (ap (λ (l : List ℕ). l ++ spellings pdus) c.joined ∙ (sym (spellings_append (c.coming ++ c.controls) pdus) ∙ ap (λ (l : List Pdu). spellings l) (append_assoc c.coming c.controls pdus)));
  works = c.works;
  waits = c.waits;
  fits = subst (λ (l : List Pdu). AreFit t.ear.limit l) (append_assoc c.coming c.controls pdus) (all_append (λ p. Fits p × MeetsLimit t.ear.limit p) (c.coming ++ c.controls) pdus c.fits fits);
  control = all_append IsControl c.controls pdus c.control control;
  none = λ e. absurd (false≢true e);
}

-- ---- worlds

pub only_link : (w : World) (number : ℕ) (link : Link) (name : Text) → OnlyHere w (with_link w number link) number name
only_link w number link name = record {
  books = λ other apart. refl;
  links = λ other apart. other_link other apart;
  armed = λ other apart. refl;
  rest = (refl, refl, refl);
}
  where
    other_link : (other : ℕ) → other ≢ number → map_of.get (map_of.insert w.links number link) other ≡ map_of.get w.links other
    other_link other apart = elim (same_or_not numbers other number) [
      | inl same ↦ absurd (apart same)
      | inr is_not ↦ get_other numbers w.links number link other is_not
    ]

-- ---- turns

module _ {S : Type 0} (step : S → DeskCall → DeskAnswer → S → Type 0) (moment : Moment) where
  -- an event in a state whose cell is known
  pub acts_by : (c : Core) (told : Told) (e : UpperEvent) (requestor : Bool) (state : State) (act : Action) (next : State) (s u : S) (x : Effect) (at : IsAt c requestor state)
      → event_of told moment c ≡ Some e → is_taken told moment c ≡ true → cell e state requestor true ≡ Some (act, next)
      → Turns step (turn moment c told) s x u → Turns step (acts act moment told (record c { phase = in_its_phase (moved at.0 next moment.now) })) s x u
  acts_by c told e requestor state act next s u x at event taken is h =
      let t1 : Turns step (moves (next_stepped e (is_taken told moment c) c.phase moment.now) moment told c) s x u = subst (λ (o : Option UpperEvent). Turns step (occurs o moment told c) s x u) event h in
      let t2 : Turns step (moves (next_stepped e true c.phase moment.now) moment told c) s x u = subst (λ (b : Bool). Turns step (moves (next_stepped e b c.phase moment.now) moment told c) s x u) taken t1 in
      let t3 : Turns step (moves (after_cell (cell e state requestor true) at.0 moment.now c.phase) moment told c) s x u =
      subst (λ (r : Result (Action × Next) Next). Turns step (moves r moment told c) s x u) (stepped_at e true c.phase moment.now requestor state at.0 at.1 at.2 at.3) t2 in
      subst (λ (o : Option (Action × State)). Turns step (moves (after_cell o at.0 moment.now c.phase) moment told c) s x u) is t3

  -- an input that isn't looked into
  pub plain_turn : (c : Core) (i : Input) (s u : S) (x : Effect) → event_of_input i ≡ None → Reacts step c (at_moment moment i) s x u → Turns step (turn moment c (Plain i)) s x u
  plain_turn c i s u x none r =
      let t : (r.told ≡ Plain i) × (r.stage ≡ c.assembly.stage) = subst (λ (o : Option UpperEvent). Looks (action_at c o) c i r.told r.stage) none r.tells in
      subst (λ (y : Taken). Turns step (turn moment (with_stage y c) (Plain i)) s x u) t.1 (subst (λ (y : Told). Turns step (turn moment (with_stage r.stage c) y) s x u) t.0 r.turns)

-- ---- a receiver leaves

module _ (plan : Network) (certificate : Certificate) (w : World) (number : ℕ) (link : Link) (k : Channel) (s : Desk) (here : IsLink w number link) (desk : IsDeskOf w link.receiver s) (shows : ShowsLink plan certificate k link) (on : link.receiver_connected ≡ true) where
  -- what it wrote as it left, if anything
  pub receiver_gone : (ear : Feeding) (wire : List ℕ) → ear.limit ≡ k.receiver.ear.limit → (acts : List LinkAction) (core : Core) (pdus : List Pdu) → core.site ≡ k.receiver.core.site → IsOff core false → bytes_of acts ≡ spellings pdus → AllByRecursion IsControl pdus → AreFit k.caller.ear.limit pdus
      → Happens plan certificate w number (BreakReceiver number) link.receiver s (receiver_as k wire ear (effect acts core))
  receiver_gone ear wire limit acts core pdus site off bytes control fits = record {
    after = with_link w number (without_receiver link);
    link = without_receiver link;
    step = record { link = link; at = here; on = on; is = refl };
    here = get_new numbers w.links number (without_receiver link);
    desk = desk;
    only = only_link w number (without_receiver link) link.receiver;
    shows = record {
      hop = shows.hop;
      from = shows.from;
      to = subst (λ (p : Option Part). IsPartOf plan certificate (site_in p) × ((site_in p).name ≡ link.receiver) × (ear.limit ≡ (site_in p).max_pdu) × (p ≡ Some (site_in p))) (sym site) (shows.to.0, shows.to.1, limit ∙ shows.to.2, shows.to.3);
      peer = shows.peer;
      caller_agrees = λ o. (let A : Option Part → Type 0 = λ p. AgreesOn (site_of k.caller.core) (site_in p) (site_in p).max_pdu k.caller.core × (k.caller.core.last < 2 ^ 16) in subst A (sym site) (shows.caller_agrees o));
      receiver_agrees = λ o. absurd (false≢true o);
      caller = shows.caller;
      receiver = off;
      to_receiver = λ o. absurd (false≢true o);
      to_caller = λ o. subst (λ (p : Option Part). Carries k.caller (k.to_caller ++ bytes_of acts) (ToCaller link.stage (site_in p) k.caller.core) false) (sym site) (subst (λ (l : List ℕ). Carries k.caller (k.to_caller ++ l) (ToCaller link.stage (site_of k.receiver.core) k.caller.core) false) (sym bytes)
          (carries_more k.caller k.to_caller (ToCaller link.stage (site_of k.receiver.core) k.caller.core) link.receiver_connected (shows.to_caller o) pdus control fits));
    };
  }

-- where a receiver that is on stands
receiver_stands : (stage : Stage) (caller : Text) (c : Core) → IsReceiver true stage caller c → (c.pending ≡ None) × ((IsAt c false Sta2 × (stage ≡ Asking)) ⊎ IsAt c false Sta6)
receiver_stands Asking caller c h = (h.1, inl (h.0, refl))
receiver_stands (Answering accepted) caller c h = (h.0.2, inr h.0.0.0)
receiver_stands Rejecting caller c h = absurd h
receiver_stands (Open accepted) caller c h = (h.0.2, inr h.0.0.0)
receiver_stands (Storing accepted item) caller c h = (h.2, inr h.0.0)
receiver_stands (Replying accepted item status) caller c h = (h.0.2, inr h.0.0.0)
receiver_stands Gone caller c h = absurd h

-- leaving with nothing pending
pub left_nothing : {S : Type 0} (step : S → DeskCall → DeskAnswer → S → Type 0) (now : ℕ) (acts : List LinkAction) (c : Core) (s u : S) (x : Effect) → c.pending ≡ None → Turns step (leaves_by c.pending now acts c) s x u → (x ≡ effect acts (left c)) × (u ≡ s)
left_nothing step now acts c s u x none h = subst (λ (o : Option Pending). Turns step (leaves_by o now acts c) s x u) none h

pub abort_fits : (limit source reason : ℕ) → AreFit limit (abort_pdu source reason ∷ [])
abort_fits limit source reason = ((others_fit (abort_pdu source reason) (λ a e. cc) (λ a e. cc) (λ a e. cc), tt), tt)

module _ (plan : Network) (certificate : Certificate) (w : World) (number : ℕ) (link : Link) (k : Channel) (s : Desk) (here : IsLink w number link) (desk : IsDeskOf w link.receiver s) (shows : ShowsLink plan certificate k link) (on : link.receiver_connected ≡ true)
    (moment : Moment) (ear : Feeding) (wire : List ℕ) (limit : ear.limit ≡ k.receiver.ear.limit) (x : Effect) (t : Desk) where
  abbrev rstep : Desk → DeskCall → DeskAnswer → Desk → Type 0
  rstep = LedgerStep plan link.receiver

  pub receiver_at : (k.receiver.core.pending ≡ None) × ((IsAt k.receiver.core false Sta2 × (link.stage ≡ Asking)) ⊎ IsAt k.receiver.core false Sta6)
  receiver_at = receiver_stands link.stage link.caller k.receiver.core (subst (λ (b : Bool). IsReceiver b link.stage link.caller k.receiver.core) on shows.receiver)

  -- it did just this, and is off
  pub receiver_done : (acts : List LinkAction) (core : Core) (pdus : List Pdu) → core.site ≡ k.receiver.core.site → IsOff core false → bytes_of acts ≡ spellings pdus → AllByRecursion IsControl pdus → AreFit k.caller.ear.limit pdus
      → (x ≡ effect acts core) × (t ≡ s) → Happens plan certificate w number (BreakReceiver number) link.receiver t (receiver_as k wire ear x)
  receiver_done acts core pdus site off bytes control fits (e, same) =
      subst (λ (y : Effect). Happens plan certificate w number (BreakReceiver number) link.receiver t (receiver_as k wire ear y)) (sym e)
      (subst (λ (d : Desk). Happens plan certificate w number (BreakReceiver number) link.receiver d (receiver_as k wire ear (effect acts core))) (sym same)
      (receiver_gone plan certificate w number link k s here desk shows on ear wire limit acts core pdus site off bytes control fits))

  pub receiver_ended : Turns rstep (turn moment k.receiver.core (Plain Ended)) s x t → Happens plan certificate w number (BreakReceiver number) link.receiver t (receiver_as k wire ear x)
  receiver_ended h = receiver_done [] (left (record k.receiver.core { phase = Idle })) [] refl (refl, inl refl) refl tt tt (elim receiver_at.1 [
    | inl at ↦ left_nothing rstep moment.now [] (record k.receiver.core { phase = Idle }) s t x receiver_at.0
        (acts_by rstep moment k.receiver.core (Plain Ended) TransportClosed false Sta2 Aa5 Sta1 s t x at.0 refl refl refl h)
    | inr at ↦ left_nothing rstep moment.now [] (record k.receiver.core { phase = Idle }) s t x receiver_at.0
        (acts_by rstep moment k.receiver.core (Plain Ended) TransportClosed false Sta6 Aa4 Sta1 s t x at refl refl refl h)
  ])

  receiver_aborts : link.stage ≢ Asking → Turns rstep (turn moment k.receiver.core (Plain AbortAsked)) s x t → Happens plan certificate w number (BreakReceiver number) link.receiver t (receiver_as k wire ear x)
  receiver_aborts not_asking h = elim receiver_at.1 [
    | inl at ↦ absurd (not_asking at.1)
    | inr at ↦ (
        let core : Core = record k.receiver.core { phase = in_its_phase (moved at.0 Sta13 moment.now) } in
        let a = acts_by rstep moment k.receiver.core (Plain AbortAsked) AbortRequest false Sta6 Aa1 Sta13 s t x at refl refl refl h in
        receiver_done (write (abort_pdu 0 0 ∷ []) ∷ []) (left (aborted core)) (abort_pdu 0 0 ∷ []) refl (refl, inr (inr (moved at.0 Sta13 moment.now, refl, at.2, refl)))
        (append-nil (spellings (abort_pdu 0 0 ∷ []))) (tt, tt) (abort_fits k.caller.ear.limit 0 0)
        (left_nothing rstep moment.now (write (abort_pdu 0 0 ∷ []) ∷ []) (aborted core) s t x receiver_at.0 a))
  ]

  abbrev LateResult : Type 0
  LateResult = Happens plan certificate w number (BreakReceiver number) link.receiver t (receiver_as k wire ear x) ⊎ ((t ≡ s) × (x ≡ effect [] k.receiver.core) × (is_late k.receiver.core moment.now ≡ false))

  abbrev late_event : Bool → Bool → Option UpperEvent
  late_event expired waited = if expired then Some ArtimExpired else if waited then Some AbortRequest else None

  -- a receiver isn't told by how long it awaits an answer
  never_waits : (state : State) → IsAt k.receiver.core false state → (is_requestor k.receiver.core && has_waited k.receiver.core.awaits moment.now) ≡ false
  never_waits state at =
      let side : is_requestor k.receiver.core ≡ false = ap (λ (o : Option Standing). option_map_or (λ (b : Standing). b.requestor) o false) at.1 ∙ at.2 in
      ap (λ (b : Bool). b && has_waited k.receiver.core.awaits moment.now) side

  in_time : (state : State) → IsAt k.receiver.core false state → next_expired k.receiver.core.phase moment.now ≡ false → Turns rstep (turn moment k.receiver.core (Plain Late)) s x t → LateResult
  in_time state at e h =
      let event : event_of (Plain Late) moment k.receiver.core ≡ None = ap (λ (b : Bool). late_event b (is_requestor k.receiver.core && has_waited k.receiver.core.awaits moment.now)) e ∙ ap (λ (b : Bool). late_event false b) (never_waits state at) in
      let r : (x ≡ effect [] k.receiver.core) × (t ≡ s) = subst (λ (o : Option UpperEvent). Turns rstep (occurs o moment (Plain Late) k.receiver.core) s x t) event h in
      inr (r.1, r.0, ap (λ (b : Bool). b || (is_requestor k.receiver.core && has_waited k.receiver.core.awaits moment.now)) e ∙ never_waits state at)

  too_late : IsAt k.receiver.core false Sta2 → next_expired k.receiver.core.phase moment.now ≡ true → Turns rstep (turn moment k.receiver.core (Plain Late)) s x t → LateResult
  too_late at e h =
      let event : event_of (Plain Late) moment k.receiver.core ≡ Some ArtimExpired = ap (λ (b : Bool). late_event b (is_requestor k.receiver.core && has_waited k.receiver.core.awaits moment.now)) e in
      inl (receiver_done (Close ∷ []) (left (record k.receiver.core { phase = in_its_phase (moved at.0 Sta1 moment.now) })) [] refl (refl, inl refl) refl tt tt
      (left_nothing rstep moment.now (Close ∷ []) (record k.receiver.core { phase = in_its_phase (moved at.0 Sta1 moment.now) }) s t x receiver_at.0
      (acts_by rstep moment k.receiver.core (Plain Late) ArtimExpired false Sta2 Aa2 Sta1 s t x at event refl refl h)))

  pub receiver_late : Turns rstep (turn moment k.receiver.core (Plain Late)) s x t → LateResult
  receiver_late h = elim (cases_Bool (next_expired k.receiver.core.phase moment.now)) [
    | inl expired ↦ elim receiver_at.1 [
      | inl at ↦ too_late at.0 expired h
      | inr at ↦ absurd (false≢true (sym (ap (λ (o : Option Standing). option_map_or (λ (a : Standing). has_expired a moment.now) o false) at.1 ∙ ap (λ (st : State). runs_artim st && nat_le (at.0.since + 30000) moment.now) at.3) ∙ expired))
    ]
    | inr waiting ↦ elim receiver_at.1 [ inl at ↦ in_time Sta2 at.0 waiting h | inr at ↦ in_time Sta6 at waiting h ]
  ]

  pub receiver_leaves_by : (i : Input) → IsLeaving i → (i ≡ AbortAsked → link.stage ≢ Asking) → Reacts rstep k.receiver.core (at_moment moment i) s x t → Happens plan certificate w number (BreakReceiver number) link.receiver t (receiver_as k wire ear x)
  receiver_leaves_by i (inl ended) not_asking r =
      let r1 : Reacts rstep k.receiver.core (at_moment moment Ended) s x t = subst (λ (j : Input). Reacts rstep k.receiver.core (at_moment moment j) s x t) ended r in
      receiver_ended (plain_turn rstep moment k.receiver.core Ended s t x refl r1)
  receiver_leaves_by i (inr aborting) not_asking r =
      let r1 : Reacts rstep k.receiver.core (at_moment moment AbortAsked) s x t = subst (λ (j : Input). Reacts rstep k.receiver.core (at_moment moment j) s x t) aborting r in
      receiver_aborts (not_asking aborting) (plain_turn rstep moment k.receiver.core AbortAsked s t x refl r1)

pub receiver_leaves : ReceiverLeaves
receiver_leaves plan certificate w number link k s here desk shows on moment time i leaving not_asking x t r =
    receiver_leaves_by plan certificate w number link k s here desk shows on moment k.receiver.ear k.to_receiver refl x t i leaving not_asking r

pub late_at_receiver : LateAtReceiver
late_at_receiver plan certificate w number link k s here desk shows on moment time x t r =
    receiver_late plan certificate w number link k s here desk shows on moment k.receiver.ear k.to_receiver refl x t (plain_turn (LedgerStep plan link.receiver) moment k.receiver.core Late s t x refl r)
