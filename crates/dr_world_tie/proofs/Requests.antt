-- A Move that ends the request is the receiver's agreement.
use Rattle.std.proofs.Common.{get_or, arith, ◌≡◌, ℕ, ◌<◌, ◌≤◌, Bool, true, false, List, [], ◌∷◌, ◌++◌, take, drop, Option, Some, None, refl, sym, ap, subst, ◌∙◌, inl, inr, ◌⊎◌}
use Rattle.std.specs.List.{AllByRecursion}
use Rattle.std.proofs.lemmas.List.{append-nil}
use Rattle.std.proofs.lemmas.Bool.{false≢true}
use Rattle.dr_base.specs.Texts.{Text}
use Rattle.dr_base.specs.declared.syntax.Syntax.{Syntax}
use Rattle.dr_plan_model.specs.Networks.{Network}
use Rattle.dr_plan_model.specs.Walks.{GoesOver, Accepts}
use Rattle.dr_plan_sound.specs.declared.certificate.Certificate.{Certificate}
use Rattle.dr_site.specs.Parts.{Part}
use Rattle.dr_site.specs.Sites.{IsCertified}
use Rattle.dr_site.proofs.Assembled.{is_site}
use Rattle.dr_ulstate.specs.declared.table.State.TheVariants.{Sta3, Sta6, Sta13}
use Rattle.dr_ulstate.specs.Standing.{moved}
use Rattle.dr_pdu.specs.declared.pdu.Pdu.{Pdu}
use Rattle.dr_pdu.specs.declared.pdu.Pdu.TheVariants as pdu
use Rattle.dr_pdu.specs.declared.pdu.Front.{Front}
use Rattle.dr_pdu.specs.Feeding.{Feeding}
use Rattle.dr_pdu.specs.Written.{Fits, MeetsLimit, written}
use Rattle.dr_pdu.proofs.WrittenLemmas.{others_fit}
use Rattle.dr_ledger.proofs.Maps.{get_new}
use Rattle.dr_world_model.proofs.Lookups.{numbers}
use Rattle.dr_world_model.specs.Worlds.{World, Link, Contexts, Stage, Asking, Answering, Rejecting, with_link, at_stage, without_receiver}
use Rattle.dr_world_model.specs.Steps.{IsLink, AcceptsOffered, others}
use Rattle.dr_world_model.specs.Events.{AgreeReceiver}
use Rattle.dr_session.specs.declared.ends.Core.{Core}
use Rattle.dr_session.specs.declared.ends.Effect.{Effect}
use Rattle.dr_session.specs.declared.ends.Input.TheVariants.{Request}
use Rattle.dr_session.specs.declared.ends.Told.{Told}
use Rattle.dr_session.specs.declared.ends.Told.TheVariants.{Plain}
use Rattle.dr_nego.specs.Fragments.{spellings}
use Rattle.dr_session.specs.declared.ends.Moment.{Moment}
use Rattle.dr_session.specs.Reactions.{turn, effect, write, rj}
use Rattle.dr_session.specs.Turns.{Turns}
use Rattle.dr_session.specs.Plays.{PlaysBytes, with_stage}
use Rattle.dr_nego.specs.declared.answering.Answer.TheVariants.{Accept, Reject}
use Rattle.dr_dimse.specs.Taking.{MessageStage as Taken}
use Rattle.dr_nego.specs.declared.agreed.Agreed.{Agreed}
use Rattle.dr_nego.specs.Agreeing.{AssociateRq}
use Rattle.dr_nego.specs.Answering.{answer, acceptance_of, agreed_by}
use Rattle.dr_nego.specs.Proposing.{IsProposal}
use Rattle.dr_nego.specs.Laws.{AgreesOnHop, HasApartIds}
use Rattle.std.proofs.lemmas.Option.{same_Some}
use Rattle.dr_pdu.specs.declared.pdu.ContextProposal.{ContextProposal}
use Rattle.dr_nego.specs.declared.agreed.Pair.{Pair}
use Rattle.dr_nego.specs.Answering.{pairs_of}
use Rattle.dr_nego.proofs.Proposed.{proposal_contexts}
use Rattle.dr_nego.proofs.Concluded.{both_sides_agree}
use Rattle.dr_nego.proofs.Sized.{acceptances_fit}
use Rattle.dr_nego.proofs.HopAgreed.{answered}
use Rattle.dr_world_tie.specs.Desks.{Desk, LedgerStep}
use Rattle.dr_world_tie.specs.Channels.{LiveTerminal, Channel, Carries, ShowsLink, ToReceiver, ToCaller, IsCaller, IsReceiver, contexts_of, hop_contexts, site_of}
use Rattle.dr_world_tie.specs.Ties.{IsDeskOf, IsFirstPdu, receiver_read, AgreesAtReceiver, Happens}
use Rattle.dr_world_tie.proofs.Fronts.{hears_one, nothing_yet}
use Rattle.dr_world_tie.proofs.Leaving.{only_link}
use Rattle.dr_world_tie.proofs.Agreeing.{front_is, plays_alone, accepted_core, refused_core, accept_turns, refuse_turns}
use Rattle.dr_world_tie.proofs.ContextSets.{has_context, from_context}

pub nothing_both : (xs ys : List ℕ) → xs ++ ys ≡ [] → (xs ≡ []) × (ys ≡ [])
nothing_both [] ys h = (refl, h)
nothing_both (x ∷ xs) ys h = absurd (let e : x ∷ (xs ++ ys) ≡ [] = h in cc)

answering_still : (b : Bool) (receiver : Text) (c : Core) (accepted : Contexts) → IsCaller b Asking receiver c → IsCaller b (Answering accepted) receiver c
answering_still true receiver c accepted h = h
answering_still false receiver c accepted h = h

rejecting_still : (b : Bool) (receiver : Text) (c : Core) → IsCaller b Asking receiver c → IsCaller b Rejecting receiver c
rejecting_still true receiver c h = h
rejecting_still false receiver c h = h

-- a wire on which nothing was, and what is written on it
pub written_on : (t : LiveTerminal) (wire bytes : List ℕ) → t.ear.kept ++ wire ≡ [] → t.ear.kept ++ (wire ++ (bytes ++ [])) ≡ bytes
written_on t wire bytes none =
    let n = nothing_both t.ear.kept wire none in
    ap (λ (l : List ℕ). l ++ (wire ++ (bytes ++ []))) n.0 ∙ (ap (λ (l : List ℕ). l ++ (bytes ++ [])) n.1 ∙ append-nil bytes)

module _ (plan : Network) (certificate : Certificate) (c : IsCertified plan certificate)
    (w : World) (number : ℕ) (link : Link) (k : Channel) (s : Desk) (here : IsLink w number link) (desk : IsDeskOf w link.receiver s) (shows : ShowsLink plan certificate k link)
    (on : link.receiver_connected ≡ true) (asking : link.stage ≡ Asking) (moment : Moment) (others_is : moment.others ≡ others w number link.receiver) (n : ℕ) where
  abbrev from : Part
  from = (site_of k.caller.core)

  abbrev to : Part
  to = (site_of k.receiver.core)

  receiver_at : IsReceiver true Asking link.caller k.receiver.core
  receiver_at = subst (λ (st : Stage). IsReceiver true st link.caller k.receiver.core) asking (subst (λ (b : Bool). IsReceiver b link.stage link.caller k.receiver.core) on shows.receiver)

  caller_at : IsCaller link.caller_connected Asking link.receiver k.caller.core
  caller_at = subst (λ (st : Stage). IsCaller link.caller_connected st link.receiver k.caller.core) asking shows.caller

  carries : Carries k.receiver k.to_receiver (ToReceiver Asking link.receiver k.caller.core k.receiver.core) link.caller_connected
  carries = subst (λ (st : Stage). Carries k.receiver k.to_receiver (ToReceiver st link.receiver k.caller.core k.receiver.core) link.caller_connected) asking (shows.to_receiver on)

  -- nothing was on the way to the caller
  nothing_there : (o : link.caller_connected ≡ true) → Carries k.caller k.to_caller (ToCaller Asking (site_of k.receiver.core) k.caller.core) true
  nothing_there o = subst (λ (st : Stage). Carries k.caller k.to_caller (ToCaller st (site_of k.receiver.core) k.caller.core) true) asking (subst (λ (b : Bool). Carries k.caller k.to_caller (ToCaller link.stage (site_of k.receiver.core) k.caller.core) b) on (shows.to_caller o))

  empty_there : (o : link.caller_connected ≡ true) → k.caller.ear.kept ++ k.to_caller ≡ []
  empty_there o =
      let old = nothing_there o in
      old.joined ∙ (ap (λ (l : List Pdu). spellings (l ++ old.controls)) old.is ∙ ap (λ (l : List Pdu). spellings l) (old.none refl))

  module _ (rq : AssociateRq) (proposed : k.caller.core.proposed ≡ Some rq) (proposal : IsProposal from link.receiver rq) (fits_rq : Fits (pdu.AssociateRq rq))
      (rest : drop n k.to_receiver ≡ spellings carries.controls) (fits_more : AllByRecursion (λ p. Fits p × MeetsLimit k.receiver.ear.limit p) carries.controls) where
    named : IsProposal from to.name rq
    named = subst (λ (t : Text). IsProposal from t rq) (sym shows.to.1) proposal

    goes_named : (class : Text) (x : Syntax) → GoesOver plan from.name to.name (class, x) → GoesOver plan link.caller link.receiver (class, x)
    goes_named class x g = subst (λ (t : Text). GoesOver plan t link.receiver (class, x)) shows.from.1 (subst (λ (t : Text). GoesOver plan from.name t (class, x)) shows.to.1 g)

    goes_back : (class : Text) (x : Syntax) → GoesOver plan link.caller link.receiver (class, x) → GoesOver plan from.name to.name (class, x)
    goes_back class x g = subst (λ (t : Text). GoesOver plan t to.name (class, x)) (sym shows.from.1) (subst (λ (t : Text). GoesOver plan link.caller t (class, x)) (sym shows.to.1) g)

    abbrev accepted : Contexts
    accepted = contexts_of (agreed_by rq to).pairs

    offers : AgreesOnHop plan from.name to.name (agreed_by rq to) → AcceptsOffered plan link.caller link.receiver accepted
    offers agrees pair = (
      λ h.
          let x = from_context (agreed_by rq to).pairs pair.0 pair.1 h in
          let g = goes_named pair.0 pair.1 ((agrees pair.0 pair.1).0 x) in
          (g, sound_accepts pair g),
      λ h.
          let x = (agrees pair.0 pair.1).1 (goes_back pair.0 pair.1 h.0) in
          has_context (agreed_by rq to).pairs x.0 pair.0 pair.1 x.1 x.2 x.3,
    )
      where
        sound_accepts : (pair : Text × Syntax) → GoesOver plan link.caller link.receiver pair → Accepts plan link.receiver link.caller pair.0 pair.1
        sound_accepts pair g =
            subst (λ (p : Text × Syntax). Accepts plan link.receiver link.caller p.0 p.1) (sym g.1) (c.sound.accepted g.0 link.caller link.receiver g.2)

    abbrev new_ear : Feeding
    new_ear = record { limit = k.receiver.ear.limit; failed = false; kept = [] }

    abbrev Result_at : Effect → Feeding → Desk → Type 0
    Result_at x new t = (answer : Option Contexts) × Happens plan certificate w number (AgreeReceiver number answer) link.receiver t (receiver_read k n new x)

    apart : HasApartIds rq
    apart i j d lt h same = (let less : (get_or rq.contexts i d).id < (get_or rq.contexts j d).id = proposal.rising i j d lt h in omega (arith, less, same))

    -- the pairs are those of the hop
    hop_pairs : (agreed_by rq to).pairs ≡ hop_contexts from to
    hop_pairs =
        let contexts = proposal_contexts from to.name rq (is_site plan certificate from c shows.from.0) named in
        let calls : rq.front.calling ≡ from.name = ap (λ (f : Front). f.calling) proposal.front in
        ap (λ (t : Text). pairs_of to.accepts t rq.contexts) calls ∙ ap (λ (cs : List ContextProposal). pairs_of to.accepts from.name cs) contexts

    agreed_is : agreed_by rq to ≡ record { pairs = hop_contexts from to; limit = from.max_pdu }
    agreed_is =
        let made : List Pair → ℕ → Agreed = λ ps n. record { pairs = ps; limit = n } in
        ap (λ (ps : List Pair). made ps rq.max_pdu) hop_pairs ∙ ap (λ (n : ℕ). made (hop_contexts from to) n) proposal.max_pdu

    abbrev taken : Effect
    taken = effect (write (pdu.AssociateAc (acceptance_of rq to) ∷ []) ∷ []) (accepted_core moment rq (agreed_by rq to) receiver_at.0.0 k.receiver.core)

    calling : rq.front.calling ≡ link.caller
    calling = ap (λ (f : Front). f.calling) proposal.front ∙ shows.from.1

    accepted_case : others w number link.receiver < 256 → AgreesOnHop plan from.name to.name (agreed_by rq to) → Result_at taken new_ear s
    accepted_case few agrees = (
      Some accepted,
      record {
        after = with_link w number (at_stage link (Answering accepted));
        link = at_stage link (Answering accepted);
        step = record { link = link; at = here; on = on; stage = asking; then = (few, offers agrees, refl) };
        here = get_new numbers w.links number (at_stage link (Answering accepted));
        desk = desk;
        only = only_link w number (at_stage link (Answering accepted)) link.receiver;
        shows = record {
          hop = shows.hop;
          from = shows.from;
          to = shows.to;
          peer = shows.peer;
          caller_agrees = shows.caller_agrees;
          receiver_agrees = λ o a e. (let f : Some (agreed_by rq to) ≡ Some a = e in sym (same_Some (agreed_by rq to) a f) ∙ agreed_is);
          caller = answering_still link.caller_connected link.receiver k.caller.core accepted caller_at;
          receiver = subst (λ (b : Bool). IsReceiver b (Answering accepted) link.caller taken.core) (sym on)
              ((((moved (moved receiver_at.0.0 Sta3 moment.now) Sta6 moment.now, refl, receiver_at.0.2, refl), (agreed_by rq to, refl, refl)), calling, receiver_at.1, receiver_at.3), receiver_at.4);
          to_receiver = λ o. record {
            coming = [];
            is = refl;
            controls = carries.controls;
            joined = rest;
            works = refl;
            waits = nothing_yet k.receiver.ear.limit;
            fits = fits_more;
            control = carries.control;
            none = carries.none;
          };
          to_caller = λ o. (
              let old = nothing_there o in
              record {
                coming = pdu.AssociateAc (acceptance_of rq to) ∷ [];
                is = (rq, acceptance_of rq to, record { pairs = (agreed_by rq to).pairs; limit = to.max_pdu }, proposed, both_sides_agree rq to (is_site plan certificate to c shows.to.0) apart, refl, refl, (let made : List Pair → Agreed = λ ps. record { pairs = ps; limit = to.max_pdu } in ap made hop_pairs));
                controls = [];
                joined = written_on k.caller k.to_caller (spellings (pdu.AssociateAc (acceptance_of rq to) ∷ [])) (empty_there o);
                works = old.works;
                waits = old.waits;
                fits = ((acceptances_fit rq to (is_site plan certificate to c shows.to.0) fits_rq, tt), tt);
                control = tt;
                none = λ e. refl;
              });
        };
      },
    )

    abbrev turned : Effect
    turned = effect (write (pdu.AssociateRj (rj 2 3 2) ∷ []) ∷ []) (refused_core moment receiver_at.0.0 k.receiver.core)

    refused_case : 256 ≤ others w number link.receiver → Result_at turned new_ear s
    refused_case many = (
      None,
      record {
        after = with_link w number (at_stage (without_receiver link) Rejecting);
        link = at_stage (without_receiver link) Rejecting;
        step = record { link = link; at = here; on = on; stage = asking; then = (many, refl) };
        here = get_new numbers w.links number (at_stage (without_receiver link) Rejecting);
        desk = desk;
        only = only_link w number (at_stage (without_receiver link) Rejecting) link.receiver;
        shows = record {
          hop = shows.hop;
          from = shows.from;
          to = shows.to;
          peer = shows.peer;
          caller_agrees = shows.caller_agrees;
          receiver_agrees = λ o. absurd (false≢true o);
          caller = rejecting_still link.caller_connected link.receiver k.caller.core caller_at;
          receiver = (receiver_at.1, inr (inr (moved receiver_at.0.0 Sta13 moment.now, refl, receiver_at.0.2, refl)));
          to_receiver = λ o. absurd (false≢true o);
          to_caller = λ o. (
              let old = nothing_there o in
              record {
                coming = pdu.AssociateRj (rj 2 3 2) ∷ [];
                is = (rj 2 3 2, refl);
                controls = [];
                joined = written_on k.caller k.to_caller (spellings (pdu.AssociateRj (rj 2 3 2) ∷ [])) (empty_there o);
                works = old.works;
                waits = old.waits;
                fits = ((others_fit (pdu.AssociateRj (rj 2 3 2)) (λ a e. cc) (λ a e. cc) (λ a e. cc), tt), tt);
                control = tt;
                none = λ e. refl;
              });
        };
      },
    )

    -- the turn that was told, and the event that it is
    by_answer : (x : Effect) (t : Desk) → Turns (LedgerStep plan link.receiver) (turn moment k.receiver.core (Plain (Request rq))) s x t →
        ((moment.others < 256) × (answer rq to moment.others ≡ Accept (acceptance_of rq to) (agreed_by rq to)) × AgreesOnHop plan from.name to.name (agreed_by rq to))
        ⊎ ((256 ≤ moment.others) × (answer rq to moment.others ≡ Reject 2 3 2)) → Result_at x new_ear t
    by_answer x t h (inl (few, e, agrees)) =
        let a = accept_turns (LedgerStep plan link.receiver) moment k.receiver.core to shows.to.3 rq receiver_at.0 s t x h (acceptance_of rq to) (agreed_by rq to) e in
        subst (λ (y : Effect). Result_at y new_ear t) (sym a.0) (subst (λ (d : Desk). Result_at taken new_ear d) (sym a.1) (accepted_case (subst (λ (m : ℕ). m < 256) others_is few) agrees))
    by_answer x t h (inr (many, e)) =
        let a = refuse_turns (LedgerStep plan link.receiver) moment k.receiver.core to shows.to.3 rq receiver_at.0 s t x h e in
        subst (λ (y : Effect). Result_at y new_ear t) (sym a.0) (subst (λ (d : Desk). Result_at turned new_ear d) (sym a.1) (refused_case (subst (λ (m : ℕ). 256 ≤ m) others_is many)))

  pub agrees : (front : Pdu) (new : Feeding) (x : Effect) (t : Desk) → IsFirstPdu k.receiver k.to_receiver front → k.receiver.ear.kept ++ take n k.to_receiver ≡ written front →
      PlaysBytes (LedgerStep plan link.receiver) moment k.receiver.ear k.receiver.core (take n k.to_receiver) s new x t →
      (answer : Option Contexts) × Happens plan certificate w number (AgreeReceiver number answer) link.receiver t (receiver_read k n new x)
  agrees front new x t first whole (inputs, heard, plays) =
      let rq = carries.is.0 in
      let one : carries.coming ++ carries.controls ≡ pdu.AssociateRq rq ∷ carries.controls = ap (λ (l : List Pdu). l ++ carries.controls) carries.is.3 in
      let fits : (Fits (pdu.AssociateRq rq) × MeetsLimit k.receiver.ear.limit (pdu.AssociateRq rq)) × AllByRecursion (λ p. Fits p × MeetsLimit k.receiver.ear.limit p) carries.controls =
      subst (λ (l : List Pdu). AllByRecursion (λ p. Fits p × MeetsLimit k.receiver.ear.limit p) l) one carries.fits in
      let f = front_is k.receiver k.to_receiver n front (pdu.AssociateRq rq) carries.controls first whole (carries.joined ∙ ap (λ (l : List Pdu). spellings l) one) fits.0.0 fits.0.1 in
      let h = hears_one k.receiver.ear new (take n k.to_receiver) inputs (pdu.AssociateRq rq) carries.works fits.0.0 fits.0.1 (whole ∙ ap written f.0) heard in
      let r = plays_alone (LedgerStep plan link.receiver) moment k.receiver.core (Request rq) inputs s t x h.0 plays in
      let told : (r.told ≡ Plain (Request rq)) × (r.stage ≡ k.receiver.core.assembly.stage) = r.tells in
      let t1 : Turns (LedgerStep plan link.receiver) (turn moment (with_stage r.stage k.receiver.core) (Plain (Request rq))) s x t =
      subst (λ (y : Told). Turns (LedgerStep plan link.receiver) (turn moment (with_stage r.stage k.receiver.core) y) s x t) told.0 r.turns in
      let t2 : Turns (LedgerStep plan link.receiver) (turn moment k.receiver.core (Plain (Request rq))) s x t =
      subst (λ (y : Taken). Turns (LedgerStep plan link.receiver) (turn moment (with_stage y k.receiver.core) (Plain (Request rq))) s x t) told.1 t1 in
      let goes = goes_back rq carries.is.1 carries.is.2 fits.0.0 f.1 fits.1 shows.hop.0.class shows.hop.0.syntax (shows.hop.0, refl, shows.hop.1) in
      let nego = answered plan certificate c from to shows.from.0 shows.to.0 rq (named rq carries.is.1 carries.is.2 fits.0.0 f.1 fits.1) shows.hop.0.class shows.hop.0.syntax goes moment.others in
      subst (λ (y : Feeding). Result_at rq carries.is.1 carries.is.2 fits.0.0 f.1 fits.1 x y t) (sym h.1) (by_answer rq carries.is.1 carries.is.2 fits.0.0 f.1 fits.1 x t t2 nego)

pub agrees_at_receiver : AgreesAtReceiver
agrees_at_receiver plan certificate c w number link k s here desk shows on asking moment time_is others_is n front new x t first whole plays =
    agrees plan certificate c w number link k s here desk shows on asking moment others_is n front new x t first whole plays
