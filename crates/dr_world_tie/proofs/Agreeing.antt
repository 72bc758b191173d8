-- A Move that ends the request.
use Rattle.std.proofs.Common.{◌≡◌, ℕ, Bool, true, false, List, [], ◌∷◌, ◌++◌, map, take, drop, Option, Some, Result, sym, ap, subst, ◌∙◌, append_assoc}
use Rattle.std.proofs.lemmas.List.{append-nil, take-append-drop, append_cancel_left}
use Rattle.dr_site.specs.Parts.{Part}
use Rattle.dr_ulstate.specs.declared.table.State.{State}
use Rattle.dr_ulstate.specs.declared.table.State.TheVariants.{Sta2, Sta3, Sta13}
use Rattle.dr_ulstate.specs.declared.table.Action.{Action}
use Rattle.dr_ulstate.specs.declared.table.Event.{Event}
use Rattle.dr_ulstate.specs.declared.table.Event.TheVariants.{AssociateRqPdu, AcceptResponse, RejectResponse}
use Rattle.dr_ulstate.specs.declared.phase.Next.{Next}
use Rattle.dr_ulstate.specs.Table.{cell}
use Rattle.dr_ulstate.specs.Standing.{Standing, moved}
use Rattle.dr_ulstate.specs.Phases.{standing_of, next_stepped, stepped_from, after_cell, in_its_phase}
use Rattle.dr_pdu.specs.declared.pdu.Pdu.{Pdu}
use Rattle.dr_pdu.specs.declared.pdu.Pdu.TheVariants as pdu
use Rattle.dr_pdu.specs.Written.{Fits, MeetsLimit, written}
use Rattle.dr_pdu.proofs.FrontLemmas.{one_spelling}
use Rattle.dr_pdu.proofs.WrittenLemmas.{written_spells}
use Rattle.dr_session.specs.declared.ends.Core.{Core}
use Rattle.dr_session.specs.declared.ends.Effect.{Effect}
use Rattle.dr_session.specs.declared.ends.Input.{Input}
use Rattle.dr_session.specs.declared.ends.Input.TheVariants.{Request}
use Rattle.dr_session.specs.declared.ends.Told.{Told}
use Rattle.dr_session.specs.declared.ends.Told.TheVariants.{Plain}
use Rattle.dr_session.specs.declared.ends.LinkAction.{LinkAction}
use Rattle.dr_session.specs.Desks.{DeskCall, DeskAnswer}
use Rattle.dr_nego.specs.Fragments.{spellings}
use Rattle.dr_session.specs.declared.ends.Moment.{Moment}
use Rattle.dr_session.specs.Reactions.{turn, moves, is_acceptable, is_taken_at, decides, decides_at, stepped_by, effect, write, rejected, rj}
use Rattle.dr_session.specs.Turns.{Turns}
use Rattle.dr_session.specs.Plays.{Plays, Reacts, at_moment}
use Rattle.dr_nego.specs.declared.answering.Answer.{Answer}
use Rattle.dr_nego.specs.declared.answering.Answer.TheVariants.{Accept, Reject}
use Rattle.dr_nego.specs.declared.agreed.Agreed.{Agreed}
use Rattle.dr_nego.specs.Agreeing.{AssociateRq, AssociateAc}
use Rattle.dr_nego.specs.Answering.{answer}
use Rattle.dr_world_tie.specs.Channels.{LiveTerminal, IsAt}
use Rattle.dr_world_tie.specs.Ties.{IsFirstPdu}

-- ---- which PDU is the front one

pub front_is : (t : LiveTerminal) (wire : List ℕ) (n : ℕ) (front p : Pdu) (pdus : List Pdu) → IsFirstPdu t wire front → t.ear.kept ++ take n wire ≡ written front
    → t.ear.kept ++ wire ≡ spellings (p ∷ pdus) → Fits p → MeetsLimit t.ear.limit p → (front ≡ p) × (drop n wire ≡ spellings pdus)
front_is t wire n front p pdus (more, all, fits, meets) whole joined fits_p meets_p =
    let same : written front ++ spellings more ≡ written p ++ spellings pdus = sym all ∙ joined in
    let one = one_spelling t.ear.limit t.ear.limit (written front) (written p) (spellings more) (spellings pdus) front p (written_spells t.ear.limit front fits meets) (written_spells t.ear.limit p fits_p meets_p) same in
    let text : written p ++ drop n wire ≡ written p ++ spellings pdus =
    ap (λ (l : List ℕ). l ++ drop n wire) (sym one.0 ∙ sym whole) ∙ (append_assoc t.ear.kept (take n wire) (drop n wire) ∙ (ap (λ (l : List ℕ). t.ear.kept ++ l) (take-append-drop n wire) ∙ joined)) in
    (one.1, append_cancel_left (written p) (drop n wire) (spellings pdus) text)

module _ {S : Type 0} (step : S → DeskCall → DeskAnswer → S → Type 0) where
  -- one input alone
  pub plays_alone : (moment : Moment) (c : Core) (i : Input) (inputs : List Input) (s u : S) (x : Effect) → inputs ≡ i ∷ [] → Plays step c (map (at_moment moment) inputs) s x.acts x.core u → Reacts step c (at_moment moment i) s x u
  plays_alone moment c i inputs s u x one h =
      let p : Plays step c (at_moment moment i ∷ []) s x.acts x.core u = subst (λ (is : List Input). Plays step c (map (at_moment moment) is) s x.acts x.core u) one h in
      by_one p
    where
      by_one : Plays step c (at_moment moment i ∷ []) s x.acts x.core u → Reacts step c (at_moment moment i) s x u
      by_one (y, m, later, r, (none, core, port), acts) =
          let same : y ≡ x = ap (λ (l : List LinkAction). effect l y.core) (sym (acts ∙ (ap (λ (l : List LinkAction). y.acts ++ l) none ∙ append-nil y.acts))) ∙ ap (λ (d : Core). effect x.acts d) (sym core) in
          subst (λ (e : Effect). Reacts step c (at_moment moment i) s e u) same (subst (λ (v : S). Reacts step c (at_moment moment i) s y v) (sym port) r)

-- ---- steps of an end that stands somewhere

pub stepped_at : (e : Event) (acceptable : Bool) (phase : Next) (now : ℕ) (requestor : Bool) (state : State) (a : Standing) → standing_of phase ≡ Some a → a.requestor ≡ requestor → a.state ≡ state
    → next_stepped e acceptable phase now ≡ after_cell (cell e state requestor acceptable) a now phase
stepped_at e acceptable phase now requestor state a is r s =
    ap (λ (o : Option Standing). stepped_from o e acceptable phase now) is
    ∙ (ap (λ (t : State). after_cell (cell e t a.requestor acceptable) a now phase) s ∙ ap (λ (b : Bool). after_cell (cell e state b acceptable) a now phase) r)

-- ---- the turn of an acceptor that hears a request

abbrev pub accepted_core : Moment → AssociateRq → Agreed → Standing → Core → Core
accepted_core moment rq agreed a c = record (stepped_by AcceptResponse moment.now (record c { phase = in_its_phase (moved a Sta3 moment.now) })) { peer = rq.front.calling; agreed = Some agreed }

abbrev pub refused_core : Moment → Standing → Core → Core
refused_core moment a c = rejected (rj 2 3 2) (stepped_by RejectResponse moment.now (record c { phase = in_its_phase (moved a Sta13 moment.now) }))

module _ {S : Type 0} (step : S → DeskCall → DeskAnswer → S → Type 0) (moment : Moment) (c : Core) (site : Part) (has : c.site ≡ Some site) (rq : AssociateRq) (at : IsAt c false Sta2) (s u : S) (x : Effect) (h : Turns step (turn moment c (Plain (Request rq))) s x u) where
  abbrev told : Told
  told = Plain (Request rq)

  pub by_cell : (acceptable : Bool) → is_acceptable (answer rq site moment.others) ≡ acceptable → Turns step (moves (after_cell (cell AssociateRqPdu Sta2 false acceptable) at.0 moment.now c.phase) moment told c) s x u
  by_cell acceptable e =
      let taken : is_taken_at c.site rq moment ≡ acceptable = ap (λ (o : Option Part). is_taken_at o rq moment) has ∙ e in
      let t1 = subst (λ (b : Bool). Turns step (moves (next_stepped AssociateRqPdu b c.phase moment.now) moment told c) s x u) taken h in
      subst (λ (r : Result (Action × Next) Next). Turns step (moves r moment told c) s x u) (stepped_at AssociateRqPdu acceptable c.phase moment.now false Sta2 at.0 at.1 at.2 at.3) t1

  pub decided : (d : Core) (a : Answer) → answer rq site moment.others ≡ a → Turns step (decides_at c.site moment rq d) s x u → Turns step (decides a moment rq d) s x u
  decided d a e t =
      let t0 : Turns step (decides (answer rq site moment.others) moment rq d) s x u = subst (λ (o : Option Part). Turns step (decides_at o moment rq d) s x u) has t in
      subst (λ (b : Answer). Turns step (decides b moment rq d) s x u) e t0

  pub accept_turns : (ac : AssociateAc) (agreed : Agreed) → answer rq site moment.others ≡ Accept ac agreed → (x ≡ effect (write (pdu.AssociateAc ac ∷ []) ∷ []) (accepted_core moment rq agreed at.0 c)) × (u ≡ s)
  accept_turns ac agreed e = decided (record c { phase = in_its_phase (moved at.0 Sta3 moment.now) }) (Accept ac agreed) e (by_cell true (ap is_acceptable e))

  pub refuse_turns : answer rq site moment.others ≡ Reject 2 3 2 → (x ≡ effect (write (pdu.AssociateRj (rj 2 3 2) ∷ []) ∷ []) (refused_core moment at.0 c)) × (u ≡ s)
  refuse_turns e = decided (record c { phase = in_its_phase (moved at.0 Sta13 moment.now) }) (Reject 2 3 2) e (by_cell false (ap is_acceptable e))
