-- A Move that ends what the writer wrote as it left.
use Rattle.std.proofs.Common.{◌≡◌, ◌≢◌, ℕ, true, false, List, [], ◌∷◌, ◌++◌, map, take, drop, Option, Some, None, refl, sym, ap, subst, ◌∙◌, inl, inr, ◌⊎◌}
use Rattle.std.specs.List.{AllByRecursion}
use Rattle.std.proofs.lemmas.List.{append-nil}
use Rattle.dr_base.specs.Texts.{Text}
use Rattle.dr_plan_model.specs.Networks.{Network}
use Rattle.dr_plan_sound.specs.declared.certificate.Certificate.{Certificate}
use Rattle.dr_site.specs.Parts.{Part}
use Rattle.dr_ulstate.specs.declared.table.Action.TheVariants.{Aa3, Aa8, Ar2}
use Rattle.dr_ulstate.specs.declared.table.Event.{Event as UpperEvent}
use Rattle.dr_ulstate.specs.declared.table.Event.TheVariants.{AbortPdu, ReleaseRqPdu, ReleaseRpPdu}
use Rattle.dr_ulstate.specs.declared.table.State.TheVariants.{Sta1, Sta5, Sta6, Sta8, Sta13}
use Rattle.dr_ulstate.specs.declared.phase.Next.TheVariants.{Idle}
use Rattle.dr_ulstate.specs.Standing.{Standing, moved}
use Rattle.dr_ulstate.specs.Phases.{in_its_phase, standing_of}
use Rattle.dr_pdu.specs.declared.pdu.Pdu.{Pdu}
use Rattle.dr_pdu.specs.declared.pdu.Pdu.TheVariants as pdu
use Rattle.dr_pdu.specs.declared.pdu.Pdv.{Pdv}
use Rattle.dr_pdu.specs.Written.{written}
use Rattle.dr_pdu.proofs.WrittenLemmas.{others_fit}
use Rattle.dr_pdu.specs.Feeding.{Feeding}
use Rattle.dr_world_model.specs.Worlds.{World, Link, Stage, Asking, Answering, Rejecting, Open, Storing, Replying, Gone}
use Rattle.dr_world_model.specs.Calls.{Answer}
use Rattle.dr_world_model.specs.Steps.{IsLink}
use Rattle.dr_world_model.specs.Events.{BreakCaller, BreakReceiver}
use Rattle.dr_session.specs.declared.ends.Core.{Core}
use Rattle.dr_session.specs.declared.ends.Effect.{Effect}
use Rattle.dr_session.specs.declared.ends.Input.{Input}
use Rattle.dr_session.specs.declared.ends.Input.TheVariants.{ReleaseRq, ReleaseRp, Abort}
use Rattle.dr_session.specs.declared.ends.Told.TheVariants.{Plain}
use Rattle.dr_session.specs.declared.ends.LinkAction.TheVariants.{Close}
use Rattle.dr_session.specs.Desks.{DeskCall, DeskAnswer}
use Rattle.dr_nego.specs.Fragments.{spellings}
use Rattle.dr_session.specs.declared.ends.Moment.{Moment}
use Rattle.dr_session.specs.Reactions.{turn, stepped_by, released, leaves_by, left, aborted, write, abort_pdu}
use Rattle.dr_session.specs.Turns.{Turns}
use Rattle.dr_session.specs.Plays.{PlaysBytes, inputs_of}
use Rattle.dr_session.specs.Telling.{event_of_input}
use Rattle.dr_world_tie.specs.Desks.{Desk, LedgerStep}
use Rattle.dr_world_tie.specs.Channels.{alone, LiveTerminal, Channel, Carries, ShowsLink, ToCaller, ToReceiver, IsAt, IsControl, site_of}
use Rattle.dr_world_tie.specs.Ties.{IsFirstPdu, receiver_read, caller_read, ReceiverHearsControl, CallerHearsControl, IsDeskOf, Happens}
use Rattle.dr_world_tie.proofs.Leaving.{AreFit, acts_by, plain_turn, abort_fits, left_nothing, receiver_done, receiver_at as receiver_stands_at}
use Rattle.dr_world_tie.proofs.CallerLeaving.{left_from, caller_at}
use Rattle.dr_world_tie.proofs.Agreeing.{front_is, plays_alone}
use Rattle.dr_world_tie.proofs.Fronts.{hears_one}

-- ---- which PDU is the front one

abbrev NoControls : List Pdu → Type 0
NoControls pdus = AllByRecursion (λ p. IsControl p → ⊥) pdus

all_alone : (values : List Pdv) → NoControls (map alone values)
all_alone [] = tt
all_alone (v ∷ vs) = ((λ h. h), all_alone vs)

none_to_receiver : (stage : Stage) (receiver : Text) (from c : Core) (pdus : List Pdu) → ToReceiver stage receiver from c pdus → NoControls pdus × (stage ≡ Asking → pdus ≢ [])
none_to_receiver Asking receiver from c pdus (rq, has, is, e) = (subst (λ (l : List Pdu). NoControls l) (sym e) ((λ h. h), tt), λ q f. (let b : pdu.AssociateRq rq ∷ [] ≡ [] = sym e ∙ f in cc))
none_to_receiver (Storing accepted item) receiver from c pdus (job, same, (id, context, is, m, asked, small)) = (subst (λ (l : List Pdu). NoControls l) (sym m.are) (all_alone m.values), λ q f. cc (q))
none_to_receiver (Answering accepted) receiver from c pdus e = (subst (λ (l : List Pdu). NoControls l) (sym e) tt, λ q f. cc (q))
none_to_receiver Rejecting receiver from c pdus e = (subst (λ (l : List Pdu). NoControls l) (sym e) tt, λ q f. cc (q))
none_to_receiver (Open accepted) receiver from c pdus e = (subst (λ (l : List Pdu). NoControls l) (sym e) tt, λ q f. cc (q))
none_to_receiver (Replying accepted item status) receiver from c pdus e = (subst (λ (l : List Pdu). NoControls l) (sym e) tt, λ q f. cc (q))
none_to_receiver Gone receiver from c pdus e = (subst (λ (l : List Pdu). NoControls l) (sym e) tt, λ q f. cc (q))

none_to_caller : (stage : Stage) (to : Part) (c : Core) (pdus : List Pdu) → ToCaller stage to c pdus → NoControls pdus
none_to_caller (Answering accepted) to c pdus h = subst (λ (l : List Pdu). NoControls l) (sym h.6) ((λ f. f), tt)
none_to_caller Rejecting to c pdus h = subst (λ (l : List Pdu). NoControls l) (sym h.1) ((λ f. f), tt)
none_to_caller (Replying accepted item status) to c pdus h = subst (λ (l : List Pdu). NoControls l) (sym h.3.are) (all_alone h.3.values)
none_to_caller Asking to c pdus e = subst (λ (l : List Pdu). NoControls l) (sym e) tt
none_to_caller (Open accepted) to c pdus e = subst (λ (l : List Pdu). NoControls l) (sym e) tt
none_to_caller (Storing accepted item) to c pdus e = subst (λ (l : List Pdu). NoControls l) (sym e) tt
none_to_caller Gone to c pdus e = subst (λ (l : List Pdu). NoControls l) (sym e) tt

-- a control PDU in front: nothing is under way any more, and it has a spelling
front_control : (t : LiveTerminal) (wire : List ℕ) (n : ℕ) (front : Pdu) (coming controls : List Pdu) → IsControl front → IsFirstPdu t wire front → t.ear.kept ++ take n wire ≡ written front
    → NoControls coming → t.ear.kept ++ wire ≡ spellings (coming ++ controls) → AreFit t.ear.limit (coming ++ controls) → coming ≡ []
front_control t wire n front [] controls control first whole none joined fits = refl
front_control t wire n front (p ∷ ps) controls control first whole none joined fits =
    let f = front_is t wire n front p (ps ++ controls) first whole joined fits.0.0 fits.0.1 in
    absurd (none.0 (subst (λ (q : Pdu). IsControl q) f.0 control))

-- the input that a control PDU is, with the event that it comes to
abbrev AsInput : Pdu → Input → Type 0
AsInput p i = (inputs_of p ≡ i ∷ []) × (event_of_input i ≡ None)

pub close_fits : (limit : ℕ) → AreFit limit (pdu.ReleaseRp ∷ [])
close_fits limit = ((others_fit pdu.ReleaseRp (λ a e. cc) (λ a e. cc) (λ a e. cc), tt), tt)

module _ (plan : Network) (certificate : Certificate) (w : World) (number : ℕ) (link : Link) (k : Channel) (s : Desk) (here : IsLink w number link) (desk : IsDeskOf w link.receiver s) (shows : ShowsLink plan certificate k link) (on : link.receiver_connected ≡ true)
    (moment : Moment) (n : ℕ) (new : Feeding) (x : Effect) (t : Desk) where
  abbrev rstep : Desk → DeskCall → DeskAnswer → Desk → Type 0
  rstep = LedgerStep plan link.receiver

  abbrev RResult : Type 0
  RResult = Happens plan certificate w number (BreakReceiver number) link.receiver t (receiver_read k n new x)

  rcarries : Carries k.receiver k.to_receiver (ToReceiver link.stage link.receiver k.caller.core k.receiver.core) link.caller_connected
  rcarries = shows.to_receiver on

  turn_of : (front : Pdu) (i : Input) → AsInput front i → IsFirstPdu k.receiver k.to_receiver front → k.receiver.ear.kept ++ take n k.to_receiver ≡ written front
      → PlaysBytes rstep moment k.receiver.ear k.receiver.core (take n k.to_receiver) s new x t → (new.limit ≡ k.receiver.ear.limit) × Turns rstep (turn moment k.receiver.core (Plain i)) s x t
  turn_of front i (inputs_is, none) (more, all, fits, meets) whole (inputs, heard, plays) =
      let h = hears_one k.receiver.ear new (take n k.to_receiver) inputs front rcarries.works fits meets whole heard in
      (ap (λ (f : Feeding). f.limit) h.1, plain_turn rstep moment k.receiver.core i s t x none (plays_alone rstep moment k.receiver.core i inputs s t x (h.0 ∙ inputs_is) plays))

  at_six : (front : Pdu) → IsControl front → IsFirstPdu k.receiver k.to_receiver front → k.receiver.ear.kept ++ take n k.to_receiver ≡ written front → (k.receiver.core.pending ≡ None) × IsAt k.receiver.core false Sta6
  at_six front control first whole =
      let free = none_to_receiver link.stage link.receiver k.caller.core k.receiver.core rcarries.coming rcarries.is in
      let empty = front_control k.receiver k.to_receiver n front rcarries.coming rcarries.controls control first whole free.0 rcarries.joined rcarries.fits in
      let r = receiver_stands_at plan certificate w number link k s here desk shows on moment k.receiver.ear k.to_receiver refl x t in
      (r.0, elim r.1 [ inl asking ↦ absurd (free.1 asking.1 empty) | inr at ↦ at ])

  rabort : Core → Core
  rabort c = aborted c

  pub rcontrol : (front : Pdu) → IsControl front → IsFirstPdu k.receiver k.to_receiver front → k.receiver.ear.kept ++ take n k.to_receiver ≡ written front → PlaysBytes rstep moment k.receiver.ear k.receiver.core (take n k.to_receiver) s new x t → RResult
  rcontrol pdu.ReleaseRq control first whole plays =
      let h = turn_of pdu.ReleaseRq ReleaseRq (refl, refl) first whole plays in
      let at = at_six pdu.ReleaseRq control first whole in
      let core : Core = released (stepped_by Rattle.dr_ulstate.specs.declared.table.Event.TheVariants.ReleaseResponse moment.now (record k.receiver.core { phase = in_its_phase (moved at.1.0 Sta8 moment.now) })) in
      receiver_done plan certificate w number link k s here desk shows on moment new (drop n k.to_receiver) h.0 x t (write (pdu.ReleaseRp ∷ []) ∷ []) (left core) (pdu.ReleaseRp ∷ []) refl
      (refl, inr (inr (moved (moved at.1.0 Sta8 moment.now) Sta13 moment.now, refl, at.1.2, refl))) (append-nil (spellings (pdu.ReleaseRp ∷ []))) (tt, tt) (close_fits k.caller.ear.limit)
      (left_nothing rstep moment.now (write (pdu.ReleaseRp ∷ []) ∷ []) core s t x at.0 (acts_by rstep moment k.receiver.core (Plain ReleaseRq) ReleaseRqPdu false Sta6 Ar2 Sta8 s t x at.1 refl refl refl h.1))
  rcontrol pdu.ReleaseRp control first whole plays =
      let h = turn_of pdu.ReleaseRp ReleaseRp (refl, refl) first whole plays in
      let at = at_six pdu.ReleaseRp control first whole in
      let core : Core = aborted (record k.receiver.core { phase = in_its_phase (moved at.1.0 Sta13 moment.now) }) in
      receiver_done plan certificate w number link k s here desk shows on moment new (drop n k.to_receiver) h.0 x t (write (abort_pdu 2 2 ∷ []) ∷ []) (left core) (abort_pdu 2 2 ∷ []) refl
      (refl, inr (inr (moved at.1.0 Sta13 moment.now, refl, at.1.2, refl))) (append-nil (spellings (abort_pdu 2 2 ∷ []))) (tt, tt) (abort_fits k.caller.ear.limit 2 2)
      (left_nothing rstep moment.now (write (abort_pdu 2 2 ∷ []) ∷ []) core s t x at.0 (acts_by rstep moment k.receiver.core (Plain ReleaseRp) ReleaseRpPdu false Sta6 Aa8 Sta13 s t x at.1 refl refl refl h.1))
  rcontrol (pdu.Abort a) control first whole plays =
      let h = turn_of (pdu.Abort a) (Abort a) (refl, refl) first whole plays in
      let at = at_six (pdu.Abort a) control first whole in
      let core : Core = aborted (record k.receiver.core { phase = Idle }) in
      receiver_done plan certificate w number link k s here desk shows on moment new (drop n k.to_receiver) h.0 x t (Close ∷ []) (left core) [] refl
      (refl, inl refl) refl tt tt
      (left_nothing rstep moment.now (Close ∷ []) core s t x at.0 (acts_by rstep moment k.receiver.core (Plain (Abort a)) AbortPdu false Sta6 Aa3 Sta1 s t x at.1 refl refl refl h.1))
  rcontrol (pdu.AssociateRq rq) control first whole plays = absurd control
  rcontrol (pdu.AssociateAc ac) control first whole plays = absurd control
  rcontrol (pdu.AssociateRj rj) control first whole plays = absurd control
  rcontrol (pdu.Transfer pdvs) control first whole plays = absurd control

pub receiver_hears_control : ReceiverHearsControl
receiver_hears_control plan certificate w number link k s here desk shows on moment time n front new x t control first whole plays =
    rcontrol plan certificate w number link k s here desk shows on moment n new x t front control first whole plays

module _ (plan : Network) (certificate : Certificate) (w : World) (number : ℕ) (link : Link) (k : Channel) (s : Desk) (here : IsLink w number link) (desk : IsDeskOf w link.caller s) (shows : ShowsLink plan certificate k link) (on : link.caller_connected ≡ true)
    (moment : Moment) (time : moment.now ≡ w.time) (n : ℕ) (new : Feeding) (x : Effect) (t : Desk) where
  abbrev cstep : Desk → DeskCall → DeskAnswer → Desk → Type 0
  cstep = LedgerStep plan link.caller

  abbrev CResult : Type 0
  CResult = (answer : Option Answer) × Happens plan certificate w number (BreakCaller number answer) link.caller t (caller_read k n new x)

  ccarries : Carries k.caller k.to_caller (ToCaller link.stage (site_of k.receiver.core) k.caller.core) link.receiver_connected
  ccarries = shows.to_caller on

  cturn_of : (front : Pdu) (i : Input) → AsInput front i → IsFirstPdu k.caller k.to_caller front → k.caller.ear.kept ++ take n k.to_caller ≡ written front
      → PlaysBytes cstep moment k.caller.ear k.caller.core (take n k.to_caller) s new x t → (new.limit ≡ k.caller.ear.limit) × Turns cstep (turn moment k.caller.core (Plain i)) s x t
  cturn_of front i (inputs_is, none) (more, all, fits, meets) whole (inputs, heard, plays) =
      let h = hears_one k.caller.ear new (take n k.to_caller) inputs front ccarries.works fits meets whole heard in
      (ap (λ (f : Feeding). f.limit) h.1, plain_turn cstep moment k.caller.core i s t x none (plays_alone cstep moment k.caller.core i inputs s t x (h.0 ∙ inputs_is) plays))

  cat : new.limit ≡ k.caller.ear.limit → IsAt k.caller.core true Sta5 ⊎ IsAt k.caller.core true Sta6
  cat limit = (caller_at plan certificate w number link k s here desk shows on new (drop n k.to_caller) limit x t).0

  -- the service provider aborts
  by_abort : (i : Input) (limit : new.limit ≡ k.caller.ear.limit) (a : Standing) → standing_of k.caller.core.phase ≡ Some a → a.requestor ≡ true → Turns cstep (leaves_by k.caller.core.pending moment.now (write (abort_pdu 2 2 ∷ []) ∷ []) (aborted (record k.caller.core { phase = in_its_phase (moved a Sta13 moment.now) }))) s x t → CResult
  by_abort i limit a is r h = left_from plan certificate w number link k s here desk shows on new (drop n k.to_caller) limit x t moment time (aborted (record k.caller.core { phase = in_its_phase (moved a Sta13 moment.now) }))
      (write (abort_pdu 2 2 ∷ []) ∷ []) (abort_pdu 2 2 ∷ []) refl refl refl refl (refl, inr (inr (moved a Sta13 moment.now, refl, r, refl))) (append-nil (spellings (abort_pdu 2 2 ∷ []))) (tt, tt) (abort_fits k.receiver.ear.limit 2 2) h

  pub ccontrol : (front : Pdu) → IsControl front → IsFirstPdu k.caller k.to_caller front → k.caller.ear.kept ++ take n k.to_caller ≡ written front → PlaysBytes cstep moment k.caller.ear k.caller.core (take n k.to_caller) s new x t → CResult
  ccontrol pdu.ReleaseRq control first whole plays =
      let h = cturn_of pdu.ReleaseRq ReleaseRq (refl, refl) first whole plays in
      elim (cat h.0) [
        | inl at ↦ by_abort ReleaseRq h.0 at.0 at.1 at.2 (acts_by cstep moment k.caller.core (Plain ReleaseRq) ReleaseRqPdu true Sta5 Aa8 Sta13 s t x at refl refl refl h.1)
        | inr at ↦ left_from plan certificate w number link k s here desk shows on new (drop n k.to_caller) h.0 x t moment time
            (released (stepped_by Rattle.dr_ulstate.specs.declared.table.Event.TheVariants.ReleaseResponse moment.now (record k.caller.core { phase = in_its_phase (moved at.0 Sta8 moment.now) })))
            (write (pdu.ReleaseRp ∷ []) ∷ []) (pdu.ReleaseRp ∷ []) refl refl refl refl (refl, inr (inr (moved (moved at.0 Sta8 moment.now) Sta13 moment.now, refl, at.2, refl)))
            (append-nil (spellings (pdu.ReleaseRp ∷ []))) (tt, tt) (close_fits k.receiver.ear.limit)
            (acts_by cstep moment k.caller.core (Plain ReleaseRq) ReleaseRqPdu true Sta6 Ar2 Sta8 s t x at refl refl refl h.1)
      ]
  ccontrol pdu.ReleaseRp control first whole plays =
      let h = cturn_of pdu.ReleaseRp ReleaseRp (refl, refl) first whole plays in
      elim (cat h.0) [
        | inl at ↦ by_abort ReleaseRp h.0 at.0 at.1 at.2 (acts_by cstep moment k.caller.core (Plain ReleaseRp) ReleaseRpPdu true Sta5 Aa8 Sta13 s t x at refl refl refl h.1)
        | inr at ↦ by_abort ReleaseRp h.0 at.0 at.1 at.2 (acts_by cstep moment k.caller.core (Plain ReleaseRp) ReleaseRpPdu true Sta6 Aa8 Sta13 s t x at refl refl refl h.1)
      ]
  ccontrol (pdu.Abort a) control first whole plays =
      let h = cturn_of (pdu.Abort a) (Abort a) (refl, refl) first whole plays in
      let core : Core = aborted (record k.caller.core { phase = Idle }) in
      left_from plan certificate w number link k s here desk shows on new (drop n k.to_caller) h.0 x t moment time core (Close ∷ []) [] refl refl refl refl (refl, inl refl) refl tt tt (elim (cat h.0) [
        | inl at ↦ acts_by cstep moment k.caller.core (Plain (Abort a)) AbortPdu true Sta5 Aa3 Sta1 s t x at refl refl refl h.1
        | inr at ↦ acts_by cstep moment k.caller.core (Plain (Abort a)) AbortPdu true Sta6 Aa3 Sta1 s t x at refl refl refl h.1
      ])
  ccontrol (pdu.AssociateRq rq) control first whole plays = absurd control
  ccontrol (pdu.AssociateAc ac) control first whole plays = absurd control
  ccontrol (pdu.AssociateRj rj) control first whole plays = absurd control
  ccontrol (pdu.Transfer pdvs) control first whole plays = absurd control

pub caller_hears_control : CallerHearsControl
caller_hears_control plan certificate w number link k s here desk shows on moment time n front new x t control first whole plays =
    ccontrol plan certificate w number link k s here desk shows on moment time n new x t front control first whole plays
