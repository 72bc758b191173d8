-- A Move of bytes, whatever is under way.
use Rattle.std.proofs.Common.{◌≡◌, ◌≢◌, ℕ, ◌≤◌, ◌<◌, Bool, true, List, [], ◌∷◌, ◌++◌, length, take, drop, None, refl, sym, ap, subst, ◌∙◌, append_assoc, inl, inr, ◌⊎◌, arith}
use Rattle.std.specs.List.{AllByRecursion}
use Rattle.std.specs.Prelude.{◌==◌, ◌-◌}
use Rattle.std.proofs.Math.Seq.{take-length}
use Rattle.std.proofs.lemmas.Bool.{cases_Bool, eqb-true, eqb-false}
use Rattle.std.proofs.lemmas.List.{append-nil, take-append-drop, take-append-le, length-drop}
use Rattle.dr_plan_model.specs.Networks.{Network}
use Rattle.dr_plan_sound.specs.declared.certificate.Certificate.{Certificate}
use Rattle.dr_site.specs.Sites.{IsCertified}
use Rattle.dr_pdu.specs.declared.pdu.Pdu.{Pdu}
use Rattle.dr_pdu.specs.declared.fault.PduFault.TheVariants.{More}
use Rattle.dr_pdu.specs.Grammar.{Shows}
use Rattle.dr_pdu.specs.Feeding.{Feeding}
use Rattle.dr_pdu.specs.Written.{written}
use Rattle.dr_pdu.proofs.FeedLemmas.{excludes}
use Rattle.dr_pdu.proofs.WrittenLemmas.{written_spells}
use Rattle.dr_nego.specs.Fragments.{spellings}
use Rattle.dr_session.specs.declared.ends.Effect.{Effect}
use Rattle.dr_session.specs.declared.ends.Moment.{Moment}
use Rattle.dr_session.specs.Plays.{PlaysBytes}
use Rattle.dr_world_model.specs.Worlds.{World, Link, Stage, Asking, Answering, Rejecting, Open, Storing, Replying, Gone}
use Rattle.dr_world_model.specs.Steps.{IsLink, others}
use Rattle.dr_world_model.specs.Events.{Event, AgreeReceiver, AgreeCaller, Receive, Answered, BreakCaller, BreakReceiver}
use Rattle.dr_world_tie.specs.Desks.{Desk, LedgerStep}
use Rattle.dr_world_tie.specs.Channels.{LiveTerminal, Channel, Carries, ShowsLink, ToReceiver, ToCaller, IsReceiver, IsCaller, IsControl, site_of}
use Rattle.dr_world_tie.specs.Ties.{IsDeskOf, IsWithin, IsData, Happens, receiver_read, caller_read}
use Rattle.dr_world_tie.specs.Moves.{IsLeft, IsOfReceiver, IsOfCaller, ReceiverMoves, CallerMoves}
use Rattle.dr_world_tie.proofs.Fronts.{more_not_memory}
use Rattle.dr_world_tie.proofs.Agreeing.{front_is}
use Rattle.dr_world_tie.proofs.Leaving.{AreFit}
use Rattle.dr_world_tie.proofs.Moving.{nothing_heard, nothing_heard_back}
use Rattle.dr_world_tie.proofs.Requests.{agrees_at_receiver, nothing_both}
use Rattle.dr_world_tie.proofs.Stores.{hears_store}
use Rattle.dr_world_tie.proofs.Acceptances.{hears_acceptance}
use Rattle.dr_world_tie.proofs.Rejections.{hears_rejection}
use Rattle.dr_world_tie.proofs.Responses.{hears_reply}
use Rattle.dr_world_tie.proofs.Controls.{receiver_hears_control, caller_hears_control}

-- ---- texts

-- of two texts that begin a third, one begins the other
abbrev Splits : List ℕ → List ℕ → List ℕ → List ℕ → Type 0
Splits a b c d = ((e : List ℕ) × (c ≡ a ++ e) × (b ≡ e ++ d)) ⊎ ((e : List ℕ) × (a ≡ c ++ e) × (d ≡ e ++ b))

head_is : (x y : ℕ) (xs ys : List ℕ) → x ∷ xs ≡ y ∷ ys → (x ≡ y) × (xs ≡ ys)
head_is x y xs ys e = (cc, cc)

splits : (a b c d : List ℕ) → a ++ b ≡ c ++ d → Splits a b c d
splits [] b c d e = inl (c, refl, e)
splits (x ∷ xs) b [] d e = inr (x ∷ xs, refl, sym e)
splits (x ∷ xs) b (y ∷ ys) d e = by_tail (splits xs b ys d h.1)
  where
    h : (x ≡ y) × (xs ++ b ≡ ys ++ d)
    h = head_is x y (xs ++ b) (ys ++ d) e

    by_tail : Splits xs b ys d → Splits (x ∷ xs) b (y ∷ ys) d
    by_tail (inl (z, p, q)) = inl (z, ap (λ (n : ℕ). n ∷ ys) (sym h.0) ∙ ap (λ (l : List ℕ). x ∷ l) p, q)
    by_tail (inr (z, p, q)) = inr (z, ap (λ (n : ℕ). n ∷ xs) h.0 ∙ ap (λ (l : List ℕ). y ∷ l) p, q)

less_of : (n m : ℕ) → n ≤ m → n ≢ m → n < m
less_of n m le apart = omega (arith, le, apart)

drop_some : (n : ℕ) (xs : List ℕ) → n < length xs → drop n xs ≢ []
drop_some n xs h e = (let l : length (drop n xs) ≡ length xs - n = length-drop n xs in let z : length (drop n xs) ≡ 0 = ap (λ (t : List ℕ). length t) e in omega (arith, h, l, z))

-- ---- the PDU at the front

-- where bytes are on the wire, what is under way begins with a PDU, and some of its bytes are still there
front_of : (t : LiveTerminal) (wire : List ℕ) (pdus : List Pdu) → t.ear.kept ++ wire ≡ spellings pdus → Shows t.ear.limit t.ear.kept More → AreFit t.ear.limit pdus → wire ≢ []
    → (front : Pdu) × (left : List ℕ) × IsLeft t wire front left
front_of t wire [] joined waits fits some = absurd (some (nothing_both t.ear.kept wire joined).1)
front_of t wire (p ∷ ps) joined waits fits some = by_split (splits t.ear.kept wire (written p) (spellings ps) joined)
  where
    starts : (e : List ℕ) → t.ear.kept ≡ written p ++ e → ⊥
    starts e same = excludes t.ear.limit t.ear.kept More waits more_not_memory p e (written p, same, written_spells t.ear.limit p fits.0.0 fits.0.1)

    by_split : Splits t.ear.kept wire (written p) (spellings ps) → (front : Pdu) × (left : List ℕ) × IsLeft t wire front left
    by_split (inl (e, whole, is)) = (
      p,
      e,
      record {
        first = (ps, joined, fits.0.0, fits.0.1);
        joined = sym whole;
        some = λ none. starts [] (sym (append-nil t.ear.kept) ∙ (ap (λ (l : List ℕ). t.ear.kept ++ l) (sym none) ∙ (sym whole ∙ sym (append-nil (written p)))));
        rest = spellings ps;
        wire_is = is;
      },
    )
    by_split (inr (e, more, is)) = absurd (starts e more)

carried_front : (t : LiveTerminal) (wire : List ℕ) (P : List Pdu → Type 0) (b : Bool) → Carries t wire P b → wire ≢ [] → (front : Pdu) × (left : List ℕ) × IsLeft t wire front left
carried_front t wire P b c some = front_of t wire (c.coming ++ c.controls) c.joined c.waits c.fits some

-- the bytes of a Move are all that is left of the front PDU, or they end nothing
moves : (t : LiveTerminal) (wire : List ℕ) (front : Pdu) (left : List ℕ) (n : ℕ) → IsLeft t wire front left → n ≤ length left
    → ((n ≡ length left) × (t.ear.kept ++ take n wire ≡ written front)) ⊎ ((n < length left) × IsWithin (t.ear.kept ++ take n wire) front)
moves t wire front left n l few =
    let same : take n wire ≡ take n left = ap (λ (z : List ℕ). take n z) l.wire_is ∙ take-append-le n left l.rest few in
    elim (cases_Bool (n == length left)) [
      | inl all ↦ (let e : n ≡ length left = eqb-true n (length left) all in
          inl (e, ap (λ (z : List ℕ). t.ear.kept ++ z) (same ∙ (ap (λ (m : ℕ). take m left) e ∙ take-length left)) ∙ l.joined))
      | inr other ↦ (
          let apart : n ≢ length left = eqb-false n (length left) other in
          let less : n < length left = less_of n (length left) few apart in
          inr (
            less,
            (
              drop n left,
              sym l.joined ∙ (ap (λ (z : List ℕ). t.ear.kept ++ z) (sym (take-append-drop n left)) ∙ (sym (append_assoc t.ear.kept (take n left) (drop n left))
                  ∙ ap (λ (z : List ℕ). (t.ear.kept ++ z) ++ drop n left) (sym same))),
              drop_some n left less,
            ),
          ))
    ]

-- where nothing is under way but what the writer wrote as it left
control_front : (t : LiveTerminal) (wire : List ℕ) (n : ℕ) (front : Pdu) (left : List ℕ) (coming controls : List Pdu) → IsLeft t wire front left → t.ear.kept ++ take n wire ≡ written front → coming ≡ []
    → t.ear.kept ++ wire ≡ spellings (coming ++ controls) → AreFit t.ear.limit (coming ++ controls) → AllByRecursion IsControl controls → IsControl front
control_front t wire n front left coming controls l whole none joined fits control =
    by_controls controls (subst (λ (c : List Pdu). t.ear.kept ++ wire ≡ spellings (c ++ controls)) none joined) (subst (λ (c : List Pdu). AreFit t.ear.limit (c ++ controls)) none fits) control
  where
    by_controls : (cs : List Pdu) → t.ear.kept ++ wire ≡ spellings cs → AreFit t.ear.limit cs → AllByRecursion IsControl cs → IsControl front
    by_controls [] j f c = absurd (l.some (nothing_both left l.rest (sym l.wire_is ∙ (nothing_both t.ear.kept wire j).1)).0)
    by_controls (c ∷ cs) j f h = (let e = front_is t wire n front c cs l.first whole j f.0.0 f.0.1 in subst (λ (q : Pdu). IsControl q) (sym e.0) h.0)

-- ---- at a receiver

module _ (plan : Network) (certificate : Certificate) (certified : IsCertified plan certificate) (w : World) (number : ℕ) (link : Link) (k : Channel) (s : Desk) (here : IsLink w number link) (desk : IsDeskOf w link.receiver s)
    (shows : ShowsLink plan certificate k link) (on : link.receiver_connected ≡ true) (moment : Moment) (time : moment.now ≡ w.time) (others_is : moment.others ≡ others w number link.receiver)
    (front : Pdu) (left : List ℕ) (l : IsLeft k.receiver k.to_receiver front left) (n : ℕ) (few : n ≤ length left) (new : Feeding) (x : Effect) (t : Desk)
    (plays : PlaysBytes (LedgerStep plan link.receiver) moment k.receiver.ear k.receiver.core (take n k.to_receiver) s new x t) where
  abbrev RResult : Type 0
  RResult = ((event : Event) × IsOfReceiver number event × (n ≡ length left) × Happens plan certificate w number event link.receiver t (receiver_read k n new x))
      ⊎ ((t ≡ s) × ShowsLink plan certificate (receiver_read k n new x) link × ((n < length left) ⊎ IsData front))

  rcarries : Carries k.receiver k.to_receiver (ToReceiver link.stage link.receiver k.caller.core k.receiver.core) link.caller_connected
  rcarries = shows.to_receiver on

  ron : IsReceiver true link.stage link.caller k.receiver.core
  ron = subst (λ (b : Bool). IsReceiver b link.stage link.caller k.receiver.core) on shows.receiver

  rcontrol : n ≡ length left → k.receiver.ear.kept ++ take n k.to_receiver ≡ written front → rcarries.coming ≡ [] → RResult
  rcontrol all whole none =
      let control = control_front k.receiver k.to_receiver n front left rcarries.coming rcarries.controls l whole none rcarries.joined rcarries.fits rcarries.control in
      inl (BreakReceiver number, refl, all, receiver_hears_control plan certificate w number link k s here desk shows on moment time n front new x t control l.first whole plays)

  rcoming : (stage : Stage) → link.stage ≡ stage → ToReceiver stage link.receiver k.caller.core k.receiver.core rcarries.coming
  rcoming stage e = subst (λ (st : Stage). ToReceiver st link.receiver k.caller.core k.receiver.core rcarries.coming) e rcarries.is

  rwhole : n ≡ length left → k.receiver.ear.kept ++ take n k.to_receiver ≡ written front → (stage : Stage) → link.stage ≡ stage → RResult
  rwhole all whole Asking e =
      let a = agrees_at_receiver plan certificate certified w number link k s here desk shows on e moment time others_is n front new x t l.first whole plays in
      inl (AgreeReceiver number a.0, refl, all, a.1)
  rwhole all whole (Storing accepted item) e = elim (hears_store plan certificate certified w number link k s here desk shows on accepted item e moment time n front new x t l.first whole plays) [
    | inl a ↦ inl (Receive number a.0, refl, all, a.1)
    | inr a ↦ inr (a.0, a.1, inr a.2)
  ]
  rwhole all whole (Answering accepted) e = rcontrol all whole (rcoming (Answering accepted) e)
  rwhole all whole (Open accepted) e = rcontrol all whole (rcoming (Open accepted) e)
  rwhole all whole (Replying accepted item status) e = rcontrol all whole (rcoming (Replying accepted item status) e)
  rwhole all whole Rejecting e = absurd (subst (λ (st : Stage). IsReceiver true st link.caller k.receiver.core) e ron)
  rwhole all whole Gone e = absurd (subst (λ (st : Stage). IsReceiver true st link.caller k.receiver.core) e ron)

  receiver_result : RResult
  receiver_result = elim (moves k.receiver k.to_receiver front left n l few) [
    | inl a ↦ rwhole a.0 a.1 link.stage refl
    | inr within ↦ (let a = nothing_heard (LedgerStep plan link.receiver) plan certificate link k shows on moment n front new x s t l.first within.1 plays in inr (a.0, a.2, inl within.0))
  ]

pub receiver_moves : ReceiverMoves
receiver_moves plan certificate certified w number link k s here desk shows on some moment time others_is =
    let f = carried_front k.receiver k.to_receiver (ToReceiver link.stage link.receiver k.caller.core k.receiver.core) link.caller_connected (shows.to_receiver on) some in
    (f.0, f.1, f.2, λ n few new x t plays. receiver_result plan certificate certified w number link k s here desk shows on moment time others_is f.0 f.1 f.2 n few new x t plays)

-- ---- at a caller

module _ (plan : Network) (certificate : Certificate) (certified : IsCertified plan certificate) (w : World) (number : ℕ) (link : Link) (k : Channel) (s : Desk) (here : IsLink w number link) (desk : IsDeskOf w link.caller s)
    (shows : ShowsLink plan certificate k link) (on : link.caller_connected ≡ true) (moment : Moment) (time : moment.now ≡ w.time)
    (front : Pdu) (left : List ℕ) (l : IsLeft k.caller k.to_caller front left) (n : ℕ) (few : n ≤ length left) (new : Feeding) (x : Effect) (t : Desk)
    (plays : PlaysBytes (LedgerStep plan link.caller) moment k.caller.ear k.caller.core (take n k.to_caller) s new x t) where
  abbrev CResult : Type 0
  CResult = ((event : Event) × IsOfCaller number event × (n ≡ length left) × Happens plan certificate w number event link.caller t (caller_read k n new x))
      ⊎ ((t ≡ s) × ShowsLink plan certificate (caller_read k n new x) link × ((n < length left) ⊎ IsData front))

  ccarries : Carries k.caller k.to_caller (ToCaller link.stage (site_of k.receiver.core) k.caller.core) link.receiver_connected
  ccarries = shows.to_caller on

  con : IsCaller true link.stage link.receiver k.caller.core
  con = subst (λ (b : Bool). IsCaller b link.stage link.receiver k.caller.core) on shows.caller

  ccontrol : n ≡ length left → k.caller.ear.kept ++ take n k.to_caller ≡ written front → ccarries.coming ≡ [] → CResult
  ccontrol all whole none =
      let control = control_front k.caller k.to_caller n front left ccarries.coming ccarries.controls l whole none ccarries.joined ccarries.fits ccarries.control in
      let a = caller_hears_control plan certificate w number link k s here desk shows on moment time n front new x t control l.first whole plays in
      inl (BreakCaller number a.0, refl, all, a.1)

  ccoming : (stage : Stage) → link.stage ≡ stage → ToCaller stage (site_of k.receiver.core) k.caller.core ccarries.coming
  ccoming stage e = subst (λ (st : Stage). ToCaller st (site_of k.receiver.core) k.caller.core ccarries.coming) e ccarries.is

  cwhole : n ≡ length left → k.caller.ear.kept ++ take n k.to_caller ≡ written front → (stage : Stage) → link.stage ≡ stage → CResult
  cwhole all whole (Answering accepted) e =
      inl (AgreeCaller number None, refl, all, hears_acceptance plan certificate w number link k s here desk shows on accepted e moment time n front new x t l.first whole plays)
  cwhole all whole Rejecting e = elim (hears_rejection plan certificate w number link k s here desk shows on e moment time n front new x t l.first whole plays) [
    | inl a ↦ inl (AgreeCaller number a.0, refl, all, a.1)
    | inr a ↦ inl (BreakCaller number None, refl, all, a)
  ]
  cwhole all whole (Replying accepted item status) e = elim (hears_reply plan certificate certified w number link k s here desk shows on accepted item status e moment time n front new x t l.first whole plays) [
    | inl a ↦ inl (Answered number a.0, refl, all, a.1)
    | inr a ↦ inr (a.0, a.1, inr a.2)
  ]
  cwhole all whole Asking e = ccontrol all whole (ccoming Asking e)
  cwhole all whole (Open accepted) e = ccontrol all whole (ccoming (Open accepted) e)
  cwhole all whole (Storing accepted item) e = ccontrol all whole (ccoming (Storing accepted item) e)
  cwhole all whole Gone e = absurd (subst (λ (st : Stage). IsCaller true st link.receiver k.caller.core) e con)

  caller_result : CResult
  caller_result = elim (moves k.caller k.to_caller front left n l few) [
    | inl a ↦ cwhole a.0 a.1 link.stage refl
    | inr within ↦ (let a = nothing_heard_back (LedgerStep plan link.caller) plan certificate link k shows on moment n front new x s t l.first within.1 plays in inr (a.0, a.2, inl within.0))
  ]

pub caller_moves : CallerMoves
caller_moves plan certificate certified w number link k s here desk shows on some moment time =
    let f = carried_front k.caller k.to_caller (ToCaller link.stage (site_of k.receiver.core) k.caller.core) link.receiver_connected (shows.to_caller on) some in
    (f.0, f.1, f.2, λ n few new x t plays. caller_result plan certificate certified w number link k s here desk shows on moment time f.0 f.1 f.2 n few new x t plays)
