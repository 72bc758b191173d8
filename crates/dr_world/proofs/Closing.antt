-- A link that is closed, in both worlds.
use Rattle.std.proofs.Common.{◌≡◌, ℕ, Bool, true, false, cond, [], Option, Some, refl, sym, ap, subst, ◌∙◌, inl, inr, ◌⊎◌}
use Rattle.std.specs.Prelude.{◌&&◌, not}
use Rattle.std.specs.Ordering.{nat_cmp, eq_by_cmp}
use Rattle.std.specs.FinMap as map
use Rattle.dr_base.specs.Texts.{Text}
use Rattle.dr_plan_model.specs.Networks.{Network}
use Rattle.dr_plan_sound.specs.declared.certificate.Certificate.{Certificate}
use Rattle.dr_site.specs.Parts.{Part}
use Rattle.dr_site.specs.Sites.{IsCertified}
use Rattle.dr_ledger.proofs.Maps.{same_or_not, ties_itself, get_new, get_other}
use Rattle.dr_session.specs.declared.ends.Effect.{Effect}
use Rattle.dr_session.specs.declared.ends.Input.TheVariants.{Ended}
use Rattle.dr_session.specs.declared.ends.Moment.{Moment}
use Rattle.dr_session.specs.Ledgers.{Desk}
use Rattle.dr_node.specs.declared.links.LinkSide.{LinkSide}
use Rattle.dr_node.specs.Sides.{moment_at, with_end}
use Rattle.dr_world_model.proofs.Lookups.{numbers}
use Rattle.dr_world_tie.specs.Desks.{LedgerStep}
use Rattle.dr_world_tie.specs.Channels.{Channel, site_in}
use Rattle.dr_world_tie.specs.Closing.{IsEnded, closed}
use Rattle.dr_world_tie.specs.Ties.{with_desk}
use Rattle.dr_world_tie.specs.ByteWorlds.{ByteWorld, Close, Done, LinkStep, DoesIf, Closes, is_over, caller_of, receiver_of, with_done, with_call}
use Rattle.dr_world.specs.Shows.{Contents, Seat, ShowsBytes, IsSeated, Becomes, HasSide, IsLinked, LinkedAt, side_of, with_side, with_end_done}
use Rattle.dr_world.specs.Closed.{IsClosed}
use Rattle.dr_world.proofs.AtNodes.{one_seat}
use Rattle.dr_world.proofs.Counted.{linked_there}
use Rattle.dr_world.proofs.Doing.{done_shows, side_here, side_kept, still_seated, apart_texts}
use Rattle.dr_world.proofs.Meeting.{Happened, happens}
use Rattle.dr_world.proofs.Asking.{kept_by}

-- worlds of bytes that say the same of each name and each number
pub alike : (c : Contents) (a b : ByteWorld) → a.time ≡ b.time → a.opened ≡ b.opened → ((q : Text) → a.desks q ≡ b.desks q) → ((n : ℕ) → map.get a.links n ≡ map.get b.links n) → ShowsBytes c a → ShowsBytes c b
alike c a b time opened desks links s = record {
  time = sym time ∙ s.time;
  opened = sym opened ∙ s.opened;
  desks = λ q. sym (desks q) ∙ s.desks q;
  links = λ n. (let P : Option Channel → Type 0 = λ o. LinkedAt c.seats n (c.wires n) o in subst P (links n) (s.links n));
  sides = s.sides;
  fresh = s.fresh;
}

-- a number that is put in twice
twice : (b : ByteWorld) (p q : Text) (u t : Desk) (number : ℕ) (k l : Channel) (n : ℕ) → (n ≡ number) ⊎ (eq_by_cmp nat_cmp n number ≡ false) →
    map.get (with_done (with_done b p u number k) q t number l).links n ≡ map.get (with_done (with_call b p u) q t number l).links n
twice b p q u t number k l n (inl e) =
    ap (map.get (map.insert (map.insert b.links number k) number l)) e ∙ (get_new numbers (map.insert b.links number k) number l ∙ (sym (get_new numbers b.links number l) ∙ ap (map.get (map.insert b.links number l)) (sym e)))
twice b p q u t number k l n (inr apart) = get_other numbers (map.insert b.links number k) number l n apart ∙ (get_other numbers b.links number k n apart ∙ sym (get_other numbers b.links number l n apart))

module _ (plan : Network) (certificate : Certificate) (certified : IsCertified plan certificate) (c : Contents) (b : ByteWorld) (seated : IsSeated plan certificate c.seats) (s : ShowsBytes c b) (number : ℕ) (new : Contents) (d : IsClosed c number new) where
  abbrev there : (k : Channel) × (map.get b.links number ≡ Some k) × IsLinked c.seats number d.wires k
  there = linked_there c b s number d.wires d.wired

  abbrev k : Channel
  k = there.0

  linked : IsLinked c.seats number d.wires k
  linked = there.2

  had_theirs : map.get d.far.sides number ≡ Some (side_of true k.receiver)
  had_theirs = subst (λ (y : Seat). map.get y.sides number ≡ Some (side_of true k.receiver)) (one_seat (c.seats d.wires.receiver) linked.at_receiver.0 d.far linked.at_receiver.1 d.is_far) linked.at_receiver.2

  abbrev first : (y : Effect) × Happened (LedgerStep plan d.wires.receiver) k.receiver.core (moment_at number d.far.sides c.now) Ended (b.desks d.wires.receiver) y d.desk × (d.acts ≡ y.acts)
      × (with_end d.theirs d.end ≡ side_of true (record { core = y.core; ear = k.receiver.ear }))
  first = happens plan certificate certified c b seated s number d.wires.receiver d.far d.is_far true k.receiver d.theirs d.has_theirs had_theirs d.acts d.end d.desk Ended d.ends

  abbrev y : Effect
  y = first.0

  -- the receiver's end has heard of it
  abbrev far_gone : Channel
  far_gone = record { caller = k.caller; receiver = record { core = y.core; ear = k.receiver.ear }; to_caller = []; to_receiver = [] }

  abbrev mid : Contents
  mid = with_end_done c d.wires.receiver d.far number (with_end d.theirs d.end) d.desk d.after

  abbrev mid_world : ByteWorld
  mid_world = with_done b d.wires.receiver d.desk number far_gone

  linked_mid : IsLinked mid.seats number d.after far_gone
  linked_mid = record {
    caller = linked.caller ∙ sym d.lost.caller;
    receiver = ap (λ (o : Option Part). (site_in o).name) (kept_by plan d.wires.receiver k.receiver.core _ Ended _ y d.desk first.1) ∙ (linked.receiver ∙ sym d.lost.receiver);
    apart = λ e. linked.apart (sym d.lost.caller ∙ (e ∙ d.lost.receiver));
    at_caller = (let P : Text → Type 0 = λ q. HasSide mid.seats q number (side_of false k.caller) in
        subst P (sym d.lost.caller) (side_kept c b s number d.wires d.after k k d.wired d.lost.caller d.lost.receiver d.wires.receiver d.far d.is_far (side_of true k.receiver) (with_end d.theirs d.end) had_theirs d.desk (inr refl) d.wires.caller number
        (side_of false k.caller) (inl (apart_texts d.wires.caller d.wires.receiver linked.apart)) linked.at_caller));
    at_receiver = (let P : Text → Type 0 = λ q. HasSide mid.seats q number (side_of true far_gone.receiver) in
        let Q : LinkSide → Type 0 = λ x. HasSide mid.seats d.wires.receiver number x in
        subst P (sym d.lost.receiver) (subst Q first.3 (side_here c b s number d.wires d.after k k d.wired d.lost.caller d.lost.receiver d.wires.receiver d.far d.is_far (side_of true k.receiver) (with_end d.theirs d.end) had_theirs d.desk (inr refl))));
    to_caller = sym d.lost.to_caller;
    to_receiver = sym d.lost.to_receiver;
  }

  shown_mid : ShowsBytes mid mid_world
  shown_mid = done_shows c b s number d.wires d.after k far_gone d.wired d.lost.caller d.lost.receiver d.wires.receiver d.far d.is_far (side_of true k.receiver) (with_end d.theirs d.end) had_theirs d.desk (inr refl) linked_mid

  seated_mid : IsSeated plan certificate mid.seats
  seated_mid = still_seated plan certificate c.seats d.wires.receiver d.far (with_side d.far number (with_end d.theirs d.end) d.desk) d.is_far refl seated

  wired_mid : mid.wires number ≡ Some d.after
  wired_mid = ap (λ (x : Bool). cond x (Some d.after) (c.wires number)) (ties_itself numbers number)

  has_mid : map.get mid_world.links number ≡ Some far_gone
  has_mid = get_new numbers b.links number far_gone

  had_mine : map.get d.near.sides number ≡ Some (side_of false k.caller)
  had_mine =
      let at : HasSide mid.seats d.wires.caller number (side_of false k.caller) = (let P : Text → Type 0 = λ q. HasSide mid.seats q number (side_of false k.caller) in subst P d.lost.caller linked_mid.at_caller) in
      subst (λ (z : Seat). map.get z.sides number ≡ Some (side_of false k.caller)) (one_seat (mid.seats d.wires.caller) at.0 d.near at.1 d.is_near) at.2

  abbrev second : (x : Effect) × Happened (LedgerStep plan d.wires.caller) k.caller.core (moment_at number d.near.sides c.now) Ended (mid_world.desks d.wires.caller) x d.own_desk × (d.own_acts ≡ x.acts)
      × (with_end d.mine d.own_end ≡ side_of false (record { core = x.core; ear = k.caller.ear }))
  second = happens plan certificate certified mid mid_world seated_mid shown_mid number d.wires.caller d.near d.is_near false k.caller d.mine d.has_mine had_mine d.own_acts d.own_end d.own_desk Ended d.own_ends

  abbrev x : Effect
  x = second.0

  abbrev last : Contents
  last = with_end_done mid d.wires.caller d.near number (with_end d.mine d.own_end) d.own_desk d.after

  linked_last : IsLinked last.seats number d.after (closed k x y)
  linked_last = record {
    caller = ap (λ (o : Option Part). (site_in o).name) (kept_by plan d.wires.caller k.caller.core _ Ended _ x d.own_desk second.1) ∙ (linked.caller ∙ sym d.lost.caller);
    receiver = linked_mid.receiver;
    apart = linked_mid.apart;
    at_caller = (let P : Text → Type 0 = λ q. HasSide last.seats q number (side_of false (closed k x y).caller) in
        let Q : LinkSide → Type 0 = λ z. HasSide last.seats d.wires.caller number z in
        subst P (sym d.lost.caller) (subst Q second.3 (side_here mid mid_world shown_mid number d.after d.after far_gone far_gone wired_mid refl refl d.wires.caller d.near d.is_near (side_of false k.caller) (with_end d.mine d.own_end) had_mine d.own_desk (inl (sym d.lost.caller)))));
    at_receiver = side_kept mid mid_world shown_mid number d.after d.after far_gone far_gone wired_mid refl refl d.wires.caller d.near d.is_near (side_of false k.caller) (with_end d.mine d.own_end) had_mine d.own_desk (inl (sym d.lost.caller))
        d.after.receiver number (side_of true far_gone.receiver) (inl (apart_texts d.after.receiver d.wires.caller (λ e. linked.apart (sym e ∙ d.lost.receiver)))) linked_mid.at_receiver;
    to_caller = sym d.lost.to_caller;
    to_receiver = sym d.lost.to_receiver;
  }

  shown_last : ShowsBytes last (with_done mid_world d.wires.caller d.own_desk number (closed k x y))
  shown_last = done_shows mid mid_world shown_mid number d.after d.after far_gone (closed k x y) wired_mid refl refl d.wires.caller d.near d.is_near (side_of false k.caller) (with_end d.mine d.own_end) had_mine d.own_desk (inl (sym d.lost.caller)) linked_last

  wires_last : (n : ℕ) (v : Bool) → cond v (Some d.after) (cond v (Some d.after) (c.wires n)) ≡ cond v (Some d.after) (c.wires n)
  wires_last n true = refl
  wires_last n false = refl

  last_is : last ≡ new
  last_is = (λ i. record { now = c.now; opened = c.opened; seats = last.seats; wires = λ n. wires_last n (eq_by_cmp nat_cmp n number) i }) ∙ sym d.is

  -- what it came to, in the world of bytes
  abbrev result : Text → Text → ByteWorld
  result q p = with_done (with_call b p d.desk) q d.own_desk number (closed k x y)

  shown_new : ShowsBytes new (result d.wires.caller d.wires.receiver)
  shown_new =
      let P : Contents → Type 0 = λ z. ShowsBytes z (result d.wires.caller d.wires.receiver) in
      subst P last_is (alike last (with_done mid_world d.wires.caller d.own_desk number (closed k x y)) (result d.wires.caller d.wires.receiver) refl refl (λ q. refl)
      (λ n. twice b d.wires.receiver d.wires.caller d.desk d.own_desk number far_gone (closed k x y) n (same_or_not numbers n number)) shown_last)

  abbrev ClosesAs : Text → Text → ByteWorld → Type 0
  ClosesAs q p after = (early late : Moment) × (x y : Effect) × (t u : Desk) × (early.now ≡ b.time) × (late.now ≡ b.time)
      × IsEnded (LedgerStep plan p) k.receiver.core early (b.desks p) y u
      × IsEnded (LedgerStep plan q) k.caller.core late (with_desk b.desks p u q) x t
      × (after ≡ with_done (with_call b p u) q t number (closed k x y))

  pub closed_becomes : not (is_over k.caller.core && is_over k.receiver.core) ≡ true → Becomes plan certificate b (Close number) Done new
  closed_becomes some =
      let named : ClosesAs d.wires.caller d.wires.receiver (result d.wires.caller d.wires.receiver) =
      (moment_at number d.far.sides c.now, moment_at number d.near.sides c.now, x, y, d.own_desk, d.desk, sym s.time, sym s.time, first.1, second.1, refl) in
      let C : Text → Type 0 = λ q. ClosesAs q d.wires.receiver (result q d.wires.receiver) × ShowsBytes new (result q d.wires.receiver) in
      let R : Text → Type 0 = λ p. ClosesAs (caller_of k) p (result (caller_of k) p) × ShowsBytes new (result (caller_of k) p) in
      let both = subst R (sym linked.receiver) (subst C (sym linked.caller) (named, shown_new)) in
      let D : Bool → Type 0 = λ v. DoesIf v b Done (result (caller_of k) (receiver_of k)) (Closes plan b number k (result (caller_of k) (receiver_of k))) in
      let P : Option Channel → Type 0 = λ o. LinkStep o b Done (result (caller_of k) (receiver_of k))
      (λ z. DoesIf (not (is_over z.caller.core && is_over z.receiver.core)) b Done (result (caller_of k) (receiver_of k)) (Closes plan b number z (result (caller_of k) (receiver_of k)))) in
      (result (caller_of k) (receiver_of k), subst P (sym there.1) (subst D (sym some) (refl, both.0)), both.1)

  pub closed_seated : IsSeated plan certificate new.seats
  closed_seated =
      let P : Contents → Type 0 = λ z. IsSeated plan certificate z.seats in
      subst P last_is (still_seated plan certificate mid.seats d.wires.caller d.near (with_side d.near number (with_end d.mine d.own_end) d.own_desk) d.is_near refl seated_mid)
