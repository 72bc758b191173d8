-- A Move that ends an acceptance.
use Rattle.std.proofs.Common.{◌≡◌, ◌≢◌, ℕ, Bool, true, false, List, [], ◌∷◌, ◌++◌, take, drop, Option, Some, None, Result, Ok, Err, refl, sym, ap, subst, ◌∙◌, inl}
use Rattle.std.proofs.lemmas.List.{append-nil}
use Rattle.dr_base.specs.Texts.{Text}
use Rattle.dr_plan_model.specs.Networks.{Network}
use Rattle.dr_plan_sound.specs.declared.certificate.Certificate.{Certificate}
use Rattle.dr_ulstate.specs.declared.table.Action.TheVariants.{Ae3}
use Rattle.dr_ulstate.specs.declared.table.State.{State}
use Rattle.dr_ulstate.specs.declared.table.Event.TheVariants.{AssociateAcPdu}
use Rattle.dr_ulstate.specs.declared.table.State.TheVariants.{Sta1, Sta5, Sta6}
use Rattle.dr_ulstate.specs.Standing.{Standing, moved}
use Rattle.dr_ulstate.specs.Phases.{in_its_phase}
use Rattle.std.specs.Option.{option_map_or}
use Rattle.dr_ulstate.specs.declared.table.Action.{Action}
use Rattle.dr_ulstate.specs.Table.{action_of}
use Rattle.dr_ulstate.specs.Phases.{state_of}
use Rattle.dr_pdu.specs.declared.pdu.Pdu.{Pdu}
use Rattle.dr_pdu.specs.declared.pdu.Pdu.TheVariants as pdu
use Rattle.dr_pdu.specs.Written.{written}
use Rattle.dr_dimse.specs.Taking.{MessageStage as Taken}
use Rattle.dr_nego.specs.declared.agreed.Agreed.{Agreed}
use Rattle.dr_nego.specs.declared.fault.NegoFault.{NegoFault}
use Rattle.dr_nego.specs.declared.fault.NegoFault.TheVariants as nego
use Rattle.dr_nego.specs.Agreeing.{AssociateRq, AssociateAc, Concludes}
use Rattle.dr_pdu.specs.Feeding.{Feeding}
use Rattle.dr_ledger.proofs.Maps.{get_new}
use Rattle.dr_world_model.proofs.Lookups.{numbers}
use Rattle.dr_world_model.specs.Worlds.{World, Link, Stage, Contexts, Answering, Open, with_link, at_stage}
use Rattle.dr_world_model.specs.Steps.{IsLink}
use Rattle.dr_world_model.specs.Events.{AgreeCaller}
use Rattle.dr_session.specs.declared.ends.Core.{Core}
use Rattle.dr_session.specs.declared.ends.Effect.{Effect}
use Rattle.dr_session.specs.declared.ends.Input.TheVariants.{Acceptance}
use Rattle.dr_session.specs.Desks.{DeskCall, DeskAnswer}
use Rattle.dr_nego.specs.Fragments.{spellings}
use Rattle.dr_session.specs.declared.ends.Moment.{Moment}
use Rattle.dr_session.specs.Reactions.{turn, agrees, effect}
use Rattle.dr_session.specs.Turns.{Turns}
use Rattle.dr_session.specs.Plays.{PlaysBytes, with_stage}
use Rattle.dr_session.specs.Telling.{Looks, TellsAcceptance}
use Rattle.dr_session.specs.declared.ends.Told.{Told}
use Rattle.dr_session.specs.declared.ends.Told.TheVariants.{Agreement}
use Rattle.dr_world_tie.specs.Desks.{Desk, LedgerStep}
use Rattle.std.proofs.lemmas.Option.{same_Some}
use Rattle.dr_world_tie.specs.Channels.{contexts_of, hop_contexts, IsAsking, IsReceiver, Channel, Carries, ShowsLink, ToCaller, ToReceiver, IsCaller, site_of}
use Rattle.dr_world_tie.specs.Ties.{IsFirstPdu, caller_read, HearsAcceptance, IsDeskOf, Happens}
use Rattle.dr_world_tie.proofs.Leaving.{AreFit, only_link, acts_by}
use Rattle.dr_world_tie.proofs.Agreeing.{front_is, plays_alone}
use Rattle.dr_world_tie.proofs.Fronts.{hears_one, nothing_yet}

-- ---- one acceptance agrees on one set of contexts

some_rq : (a b : AssociateRq) → Some a ≡ Some b → a ≡ b
some_rq a b e = cc

-- an acceptance that can be concluded isn't refused
concluded : (rq : AssociateRq) (ac : AssociateAc) (agreed : Agreed) (answer : Result Agreed NegoFault) → Concludes rq ac (Ok agreed) → Concludes rq ac answer → (answer ≢ Err nego.Memory) → (other : Agreed) × (answer ≡ Ok other) × (other ≡ agreed)
concluded rq ac agreed (Ok other) c h some = (other, refl, h.3 ∙ sym c.3)
concluded rq ac agreed (Err nego.StrangeId) c h some = absurd (c.0 h)
concluded rq ac agreed (Err nego.StrangeSyntax) c h some = absurd (c.1 h.1)
concluded rq ac agreed (Err nego.LimitTooSmall) c h some = absurd (c.2 h.2)
concluded rq ac agreed (Err nego.NoHop) c h some = absurd h
concluded rq ac agreed (Err nego.Memory) c h some = absurd (some refl)

open_still : (b : Bool) (accepted : Contexts) (caller : Text) (c : Core) → IsReceiver b (Answering accepted) caller c → IsReceiver b (Open accepted) caller c
open_still true accepted caller c h = h
open_still false accepted caller c h = h

module _ (plan : Network) (certificate : Certificate) (w : World) (number : ℕ) (link : Link) (k : Channel) (s : Desk) (here : IsLink w number link) (desk : IsDeskOf w link.caller s) (shows : ShowsLink plan certificate k link)
    (on : link.caller_connected ≡ true) (accepted : Contexts) (answering : link.stage ≡ Answering accepted) (moment : Moment) (n : ℕ) (front : Pdu) (new : Feeding) (x : Effect) (t : Desk)
    (first : IsFirstPdu k.caller k.to_caller front) (whole : k.caller.ear.kept ++ take n k.to_caller ≡ written front)
    (plays : PlaysBytes (LedgerStep plan link.caller) moment k.caller.ear k.caller.core (take n k.to_caller) s new x t) where
  abbrev cstep : Desk → DeskCall → DeskAnswer → Desk → Type 0
  cstep = LedgerStep plan link.caller

  abbrev c : Core
  c = k.caller.core

  asking : IsAsking c link.receiver
  asking = subst (λ (st : Stage). IsCaller true st link.receiver c) answering (subst (λ (b : Bool). IsCaller b link.stage link.receiver c) on shows.caller)

  carries : Carries k.caller k.to_caller (ToCaller (Answering accepted) (site_of k.receiver.core) c) link.receiver_connected
  carries = subst (λ (st : Stage). Carries k.caller k.to_caller (ToCaller st (site_of k.receiver.core) c) link.receiver_connected) answering (shows.to_caller on)

  abbrev new_ear : Feeding
  new_ear = record { limit = k.caller.ear.limit; failed = false; kept = [] }

  -- the end that is established
  abbrev opened : Agreed → Core
  opened other = record c { phase = in_its_phase (moved asking.0.0 Sta6 moment.now); agreed = Some other; awaits = None }

  turned : (told : Told) (stage : Taken) (rq : AssociateRq) (ac : AssociateAc) (agreed : Agreed) → Concludes rq ac (Ok agreed) → (answer : Result Agreed NegoFault) → Concludes rq ac answer → told ≡ Agreement answer → stage ≡ c.assembly.stage
      → Turns cstep (turn moment (with_stage stage c) told) s x t → (other : Agreed) × (other ≡ agreed) × (x ≡ effect [] (opened other)) × (t ≡ s)
  turned told stage rq ac agreed good answer h is same turns =
      let t1 : Turns cstep (turn moment (with_stage stage c) (Agreement answer)) s x t = subst (λ (y : Told). Turns cstep (turn moment (with_stage stage c) y) s x t) is turns in
      let t2 : Turns cstep (turn moment c (Agreement answer)) s x t = subst (λ (y : Taken). Turns cstep (turn moment (with_stage y c) (Agreement answer)) s x t) same t1 in
      let a : Turns cstep (agrees answer moment (record c { phase = in_its_phase (moved asking.0.0 Sta6 moment.now) })) s x t =
      acts_by cstep moment c (Agreement answer) AssociateAcPdu true Sta5 Ae3 Sta6 s t x asking.0 refl refl refl t2 in
      let r = concluded rq ac agreed answer good h (λ e. subst (λ (y : Result Agreed NegoFault). Turns cstep (agrees y moment (record c { phase = in_its_phase (moved asking.0.0 Sta6 moment.now) })) s x t) e a) in
      let b : (x ≡ effect [] (opened r.0)) × (t ≡ s) = subst (λ (y : Result Agreed NegoFault). Turns cstep (agrees y moment (record c { phase = in_its_phase (moved asking.0.0 Sta6 moment.now) })) s x t) r.1 a in
      (r.0, r.2, b.0, b.1)

  event : (other : Agreed) → other ≡ record { pairs = hop_contexts (site_of c) (site_of k.receiver.core); limit = (site_of k.receiver.core).max_pdu } → accepted ≡ contexts_of other.pairs → drop n k.to_caller ≡ spellings carries.controls → AreFit k.caller.ear.limit carries.controls → Happens plan certificate w number (AgreeCaller number None) link.caller s (caller_read k n new_ear (effect [] (opened other)))
  event other is same rest fits = record {
    after = with_link w number (at_stage link (Open accepted));
    link = at_stage link (Open accepted);
    step = record { link = link; at = here; on = on; then = inl (accepted, answering, refl) };
    here = get_new numbers w.links number (at_stage link (Open accepted));
    desk = desk;
    only = only_link w number (at_stage link (Open accepted)) link.caller;
    shows = record {
      hop = shows.hop;
      from = shows.from;
      to = shows.to;
      peer = shows.peer;
      caller_agrees = λ o. ((λ a e. (let f : Some other ≡ Some a = e in sym (same_Some other a f) ∙ is)), (shows.caller_agrees on).1);
      receiver_agrees = shows.receiver_agrees;
      caller = subst (λ (b : Bool). IsCaller b (Open accepted) link.receiver (opened other)) (sym on)
          (((moved asking.0.0 Sta6 moment.now, refl, asking.0.2, refl), (other, refl, same)), asking.1, asking.4, asking.3, refl);
      receiver = open_still link.receiver_connected accepted link.caller k.receiver.core (subst (λ (st : Stage). IsReceiver link.receiver_connected st link.caller k.receiver.core) answering shows.receiver);
      to_receiver = λ o. (
          let old : Carries k.receiver k.to_receiver (ToReceiver (Answering accepted) link.receiver c k.receiver.core) link.caller_connected =
          subst (λ (st : Stage). Carries k.receiver k.to_receiver (ToReceiver st link.receiver c k.receiver.core) link.caller_connected) answering (shows.to_receiver o) in
          record { coming = old.coming; is = old.is; controls = old.controls; joined = ap (λ (l : List ℕ). k.receiver.ear.kept ++ l) (append-nil k.to_receiver) ∙ old.joined; works = old.works; waits = old.waits; fits = old.fits; control = old.control; none = old.none });
      to_caller = λ o. record {
        coming = [];
        is = refl;
        controls = carries.controls;
        joined = rest;
        works = refl;
        waits = nothing_yet k.caller.ear.limit;
        fits = fits;
        control = carries.control;
        none = carries.none;
      };
    };
  }

  pub acceptance_heard : Happens plan certificate w number (AgreeCaller number None) link.caller t (caller_read k n new x)
  acceptance_heard =
      let rq = carries.is.0 in
      let ac = carries.is.1 in
      let agreed = carries.is.2 in
      let one : carries.coming ++ carries.controls ≡ pdu.AssociateAc ac ∷ carries.controls = ap (λ (l : List Pdu). l ++ carries.controls) carries.is.6 in
      let fits : AreFit k.caller.ear.limit (pdu.AssociateAc ac ∷ carries.controls) = subst (λ (l : List Pdu). AreFit k.caller.ear.limit l) one carries.fits in
      let f = front_is k.caller k.to_caller n front (pdu.AssociateAc ac) carries.controls first whole (carries.joined ∙ ap (λ (l : List Pdu). spellings l) one) fits.0.0 fits.0.1 in
      let h = hears_one k.caller.ear new (take n k.to_caller) plays.0 (pdu.AssociateAc ac) carries.works fits.0.0 fits.0.1 (whole ∙ ap written f.0) plays.1 in
      let r = plays_alone cstep moment c (Acceptance ac) plays.0 s t x h.0 plays.2 in
      let action : action_of AssociateAcPdu (state_of c.phase) ≡ Some Ae3 =
      ap (λ (z : State). action_of AssociateAcPdu z) (ap (λ (o : Option Standing). option_map_or (λ (b : Standing). b.state) o Sta1) asking.0.1 ∙ asking.0.3) in
      let looked = subst (λ (a : Option Action). Looks a c (Acceptance ac) r.told r.stage) action r.tells in
      let told : TellsAcceptance (Some rq) ac r.told = subst (λ (o : Option AssociateRq). TellsAcceptance o ac r.told) carries.is.3 looked.0 in
      let b = turned r.told r.stage rq ac agreed carries.is.4 told.0 told.1 told.2 looked.1 r.turns in
      let contexts : accepted ≡ contexts_of b.0.pairs = carries.is.5 ∙ ap (λ (a : Agreed). contexts_of a.pairs) (sym b.1) in
      subst (λ (y : Effect). Happens plan certificate w number (AgreeCaller number None) link.caller t (caller_read k n new y)) (sym b.2)
      (subst (λ (y : Feeding). Happens plan certificate w number (AgreeCaller number None) link.caller t (caller_read k n y (effect [] (opened b.0)))) (sym h.1)
      (subst (λ (d : Desk). Happens plan certificate w number (AgreeCaller number None) link.caller d (caller_read k n new_ear (effect [] (opened b.0)))) (sym b.3)
      (event b.0 (b.1 ∙ carries.is.7) contexts f.1 fits.1)))

pub hears_acceptance : HearsAcceptance
hears_acceptance plan certificate w number link k s here desk shows on accepted answering moment time n front new x t first whole plays =
    acceptance_heard plan certificate w number link k s here desk shows on accepted answering moment n front new x t first whole plays
