-- Bytes that end no PDU.
use Rattle.std.proofs.Common.{◌≡◌, ℕ, Bool, List, [], ◌++◌, map, take, drop, refl, ap, subst, ◌∙◌, append_assoc}
use Rattle.std.proofs.lemmas.List.{append-nil, take-append-drop}
use Rattle.dr_pdu.specs.declared.pdu.Pdu.{Pdu}
use Rattle.dr_pdu.specs.Feeding.{Feeding}
use Rattle.dr_session.specs.declared.ends.Core.{Core}
use Rattle.dr_session.specs.declared.ends.Effect.{Effect}
use Rattle.dr_session.specs.declared.ends.Input.{Input}
use Rattle.dr_session.specs.declared.ends.LinkAction.{LinkAction}
use Rattle.dr_session.specs.Desks.{DeskCall, DeskAnswer}
use Rattle.dr_session.specs.declared.ends.Moment.{Moment}
use Rattle.dr_session.specs.Reactions.{effect}
use Rattle.dr_session.specs.Plays.{Plays, PlaysBytes, At, at_moment}
use Rattle.dr_world_tie.specs.Channels.{LiveTerminal, Carries}
use Rattle.dr_world_tie.specs.Ties.{IsFirstPdu, IsWithin, ReceiverHearsNothing, CallerHearsNothing}
use Rattle.dr_world_tie.proofs.Fronts.{hears_none}

-- what is under way stays under way
pub still_carries : (t : LiveTerminal) (wire : List ℕ) (IsComing : List Pdu → Type 0) (writer_on : Bool) → Carries t wire IsComing writer_on →
    (n : ℕ) (front : Pdu) (new : Feeding) (inputs : List Input) → IsFirstPdu t wire front → IsWithin (t.ear.kept ++ take n wire) front →
    Rattle.dr_session.specs.Plays.Hears t.ear (take n wire) inputs new → (inputs ≡ []) × Carries (record { core = t.core; ear = new }) (drop n wire) IsComing writer_on × (new.limit ≡ t.ear.limit)
still_carries t wire IsComing writer_on c n front new inputs (more, all, fits, meets) (back, is, some) h =
    let a = hears_none t.ear new (take n wire) back inputs front c.works fits meets is some h in (
      a.0,
      rw (a.1) record {
        coming = c.coming;
        is = c.is;
        controls = c.controls;
        joined = append_assoc t.ear.kept (take n wire) (drop n wire) ∙ ap (λ (l : List ℕ). t.ear.kept ++ l) (take-append-drop n wire) ∙ c.joined;
        works = refl;
        waits = a.2;
        fits = c.fits;
        control = c.control;
        none = c.none;
      },
      ap (λ (f : Feeding). f.limit) a.1,
    )

module _ {S : Type 0} (step : S → DeskCall → DeskAnswer → S → Type 0) where
  -- no input does nothing
  pub plays_none : (moment : Moment) (c : Core) (inputs : List Input) (s u : S) (x : Effect) → inputs ≡ [] → Plays step c (map (at_moment moment) inputs) s x.acts x.core u → (u ≡ s) × (x ≡ effect [] c)
  plays_none moment c inputs s u x none h =
      let p : Plays step c [] s x.acts x.core u = subst (λ (is : List Input). Plays step c (map (at_moment moment) is) s x.acts x.core u) none h in
      (p.2, ap (λ (l : List LinkAction). effect l x.core) p.0 ∙ ap (λ (d : Core). effect [] d) p.1)

  pub nothing_heard : ReceiverHearsNothing step
  nothing_heard plan certificate link k shows on moment n front new x s u first within (inputs, heard, plays) =
      let carries = shows.to_receiver on in
      let a = still_carries k.receiver k.to_receiver _ link.caller_connected carries n front new inputs first within heard in
      let b = plays_none moment k.receiver.core inputs s u x a.0 plays in (
        b.0,
        b.1,
        rw (b.1) record {
          hop = shows.hop;
          from = shows.from;
          to = (shows.to.0, shows.to.1, a.2 ∙ shows.to.2, shows.to.3);
          peer = shows.peer;
          caller_agrees = shows.caller_agrees;
          receiver_agrees = shows.receiver_agrees;
          caller = shows.caller;
          receiver = shows.receiver;
          to_receiver = λ o. a.1;
          to_caller = rw (append-nil) shows.to_caller;
        },
      )

  pub nothing_heard_back : CallerHearsNothing step
  nothing_heard_back plan certificate link k shows on moment n front new x s u first within (inputs, heard, plays) =
      let carries = shows.to_caller on in
      let a = still_carries k.caller k.to_caller _ link.receiver_connected carries n front new inputs first within heard in
      let b = plays_none moment k.caller.core inputs s u x a.0 plays in (
        b.0,
        b.1,
        rw (b.1) record {
          hop = shows.hop;
          from = (shows.from.0, shows.from.1, a.2 ∙ shows.from.2, shows.from.3);
          to = shows.to;
          peer = shows.peer;
          caller_agrees = shows.caller_agrees;
          receiver_agrees = shows.receiver_agrees;
          caller = shows.caller;
          receiver = shows.receiver;
          to_receiver = rw (append-nil) shows.to_receiver;
          to_caller = λ o. a.1;
        },
      )
