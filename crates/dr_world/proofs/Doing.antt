-- What is done at one end of a link, in both worlds.
use Rattle.std.proofs.Common.{◌≡◌, ◌≢◌, ℕ, ◌<◌, ◌++◌, Bool, true, false, cond, List, Option, None, Some, refl, sym, ap, subst, ◌∙◌, inl, inr, ◌⊎◌}
use Rattle.std.specs.Prelude.{if◌then◌else◌}
use Rattle.std.specs.Ordering.{nat_cmp, eq_by_cmp}
use Rattle.std.specs.FinMap as map
use Rattle.dr_base.specs.Texts.{Text}
use Rattle.dr_plan_model.specs.Networks.{Network}
use Rattle.dr_plan_sound.specs.declared.certificate.Certificate.{Certificate}
use Rattle.dr_site.specs.Parts.{Part, IsPartOf}
use Rattle.dr_pdu.specs.Feeding.{Feeding}
use Rattle.dr_ledger.proofs.Maps.{texts, same_or_not, ties_itself, get_new, get_other}
use Rattle.dr_session.specs.declared.ends.Effect.{Effect}
use Rattle.dr_session.specs.Ledgers.{Desk}
use Rattle.dr_node.specs.declared.links.LinkSide.{LinkSide}
use Rattle.dr_node.specs.Sides.{is_taken}
use Rattle.dr_world_model.proofs.Lookups.{numbers}
use Rattle.dr_world_model.specs.Worlds.{same_text}
use Rattle.dr_world_tie.specs.Channels.{Channel, site_in, bytes_of}
use Rattle.dr_world_tie.specs.Ties.{caller_as, receiver_as}
use Rattle.dr_world_tie.specs.ByteWorlds.{ByteWorld, with_done}
use Rattle.dr_world.specs.declared.wires.Wires.{Wires}
use Rattle.dr_world.specs.Shows.{Contents, Seat, Seats, ShowsBytes, IsSeated, HasSide, IsLinked, LinkedAt, IsOfLink, side_of, desk_at, with_seat, with_side, with_wires, with_end_done}
use Rattle.dr_world.proofs.AtNodes.{one_seat}

-- ---- a node with another seat

module _ (seats : Seats) (name : Text) (seat : Seat) where
  pub seat_here : with_seat seats name seat name ≡ Some seat
  seat_here = ap (λ (x : Bool). cond x (Some seat) (seats name)) (ties_itself texts name)

  pub seat_there : (other : Text) → same_text other name ≡ false → with_seat seats name seat other ≡ seats other
  seat_there other apart = ap (λ (x : Bool). cond x (Some seat) (seats other)) apart

-- names that differ differ as texts
pub apart_texts : (a b : Text) → a ≢ b → same_text a b ≡ false
apart_texts a b h = elim (same_or_not texts a b) [ inl same ↦ absurd (h same) | inr apart ↦ apart ]

-- one of the plan's nodes stays one, whatever was done at it
pub still_seated : (plan : Network) (certificate : Certificate) (seats : Seats) (name : Text) (seat new : Seat) → seats name ≡ Some seat → new.site ≡ seat.site → IsSeated plan certificate seats → IsSeated plan certificate (with_seat seats name new)
still_seated plan certificate seats name seat new is site s = record {
  each = λ other x e. elim (same_or_not texts other name) [
    | inl same ↦
        let at_it : Some new ≡ Some x = sym (ap (with_seat seats name new) same ∙ seat_here seats name new) ∙ e in
        let one : new ≡ x = cc in
        let was = s.each name seat is in
        let P : Part → Type 0 = λ p. (p.name ≡ other) × IsPartOf plan certificate p in
        subst P (sym site ∙ ap (λ (y : Seat). y.site) one) (was.0 ∙ sym same, was.1)
    | inr apart ↦ s.each other x (sym (seat_there seats name new other apart) ∙ e)
  ];
  all = λ other has. (let was = s.all other has in by_name other was.0 was.1 (same_text other name));
}
  where
    by_name : (other : Text) (x : Seat) → seats other ≡ Some x → (b : Bool) → (y : Seat) × (cond b (Some new) (seats other) ≡ Some y)
    by_name other x e true = (new, refl)
    by_name other x e false = (x, e)

-- ---- one side of one link

module _ (c : Contents) (b : ByteWorld) (s : ShowsBytes c b) (number : ℕ) (w v : Wires) (k l : Channel) (wired : c.wires number ≡ Some w) (caller : v.caller ≡ w.caller) (receiver : v.receiver ≡ w.receiver)
    (name : Text) (seat : Seat) (is : c.seats name ≡ Some seat) (was side : LinkSide) (had : map.get seat.sides number ≡ Some was) (t : Desk) (of : (name ≡ w.caller) ⊎ (name ≡ w.receiver)) where
  abbrev new : Contents
  new = with_end_done c name seat number side t v

  seat_new : (with_end_done c name seat number side t v).seats name ≡ Some (with_side seat number side t)
  seat_new = seat_here c.seats name (with_side seat number side t)

  pub side_here : HasSide (with_end_done c name seat number side t v).seats name number side
  side_here = (with_side seat number side t, seat_new, get_new numbers seat.sides number side)

  pub side_kept : (other : Text) (n : ℕ) (x : LinkSide) → (same_text other name ≡ false) ⊎ (eq_by_cmp nat_cmp n number ≡ false) → HasSide c.seats other n x → HasSide (with_end_done c name seat number side t v).seats other n x
  side_kept other n x (inl apart) h = (h.0, seat_there c.seats name (with_side seat number side t) other apart ∙ h.1, h.2)
  side_kept other n x (inr apart) h = elim (same_or_not texts other name) [
    | inl same ↦
        let one : h.0 ≡ seat = one_seat (c.seats name) h.0 seat (subst (λ (q : Text). c.seats q ≡ Some h.0) same h.1) is in
        let got : map.get seat.sides n ≡ Some x = subst (λ (y : Seat). map.get y.sides n ≡ Some x) one h.2 in
        let P : Text → Type 0 = λ q. HasSide (with_end_done c name seat number side t v).seats q n x in
        subst P (sym same) (with_side seat number side t, seat_new, get_other numbers seat.sides number side n apart ∙ got)
    | inr away ↦ (h.0, seat_there c.seats name (with_side seat number side t) other away ∙ h.1, h.2)
  ]

  side_had : (other : Text) (n : ℕ) (x : LinkSide) → (same_text other name ≡ false) ⊎ (eq_by_cmp nat_cmp n number ≡ false) → HasSide (with_end_done c name seat number side t v).seats other n x → HasSide c.seats other n x
  side_had other n x (inl apart) h = (h.0, sym (seat_there c.seats name (with_side seat number side t) other apart) ∙ h.1, h.2)
  side_had other n x (inr apart) h = elim (same_or_not texts other name) [
    | inl same ↦
        let P : Text → Type 0 = λ q. (with_end_done c name seat number side t v).seats q ≡ Some h.0 in
        let one : h.0 ≡ with_side seat number side t = one_seat ((with_end_done c name seat number side t v).seats name) h.0 (with_side seat number side t) (subst P same h.1) seat_new in
        let got : map.get (map.insert seat.sides number side) n ≡ Some x = subst (λ (y : Seat). map.get y.sides n ≡ Some x) one h.2 in
        let Q : Text → Type 0 = λ q. HasSide c.seats q n x in
        subst Q (sym same) (seat, is, sym (get_other numbers seat.sides number side n apart) ∙ got)
    | inr away ↦ (h.0, sym (seat_there c.seats name (with_side seat number side t) other away) ∙ h.1, h.2)
  ]

  wires_here : with_wires c.wires number v number ≡ Some v
  wires_here = ap (λ (x : Bool). cond x (Some v) (c.wires number)) (ties_itself numbers number)

  wires_there : (n : ℕ) → eq_by_cmp nat_cmp n number ≡ false → with_wires c.wires number v n ≡ c.wires n
  wires_there n apart = ap (λ (x : Bool). cond x (Some v) (c.wires n)) apart

  same_wires : (x y : Wires) → Some x ≡ Some y → x ≡ y
  same_wires x y e = cc

  end_named : (q : Text) → (q ≡ w.caller) ⊎ (q ≡ w.receiver) → (q ≡ v.caller) ⊎ (q ≡ v.receiver)
  end_named q (inl e) = inl (e ∙ sym caller)
  end_named q (inr e) = inr (e ∙ sym receiver)

  of_link : (q : Text) (n : ℕ) → IsOfLink c.wires q n → IsOfLink (with_wires c.wires number v) q n
  of_link q n (u, has, which) = elim (same_or_not numbers n number) [
    | inl same ↦
        let one : u ≡ w = same_wires u w (sym (subst (λ (m : ℕ). c.wires m ≡ Some u) same has) ∙ wired) in
        let P : ℕ → Type 0 = λ m. IsOfLink (with_wires c.wires number v) q m in
        subst P (sym same) (v, wires_here, end_named q (subst (λ (z : Wires). (q ≡ z.caller) ⊎ (q ≡ z.receiver)) one which))
    | inr apart ↦ (u, wires_there n apart ∙ has, which)
  ]

  desk_after : (q : Text) (x : Bool) → b.desks q ≡ desk_at (c.seats q) → (if x then t else b.desks q) ≡ desk_at (cond x (Some (with_side seat number side t)) (c.seats q))
  desk_after q true e = refl
  desk_after q false e = e

  linked_same : (n : ℕ) → eq_by_cmp nat_cmp n number ≡ false → (o : Option Wires) (m : Option Channel) → LinkedAt c.seats n o m → LinkedAt (with_end_done c name seat number side t v).seats n o m
  linked_same n apart None None h = h
  linked_same n apart (Some u) None h = h
  linked_same n apart None (Some m) h = h
  linked_same n apart (Some u) (Some m) h = record {
    caller = h.caller;
    receiver = h.receiver;
    apart = h.apart;
    at_caller = side_kept u.caller n _ (inr apart) h.at_caller;
    at_receiver = side_kept u.receiver n _ (inr apart) h.at_receiver;
    to_caller = h.to_caller;
    to_receiver = h.to_receiver;
  }

  linked_at : IsLinked (with_end_done c name seat number side t v).seats number v l → (n : ℕ) → (n ≡ number) ⊎ (eq_by_cmp nat_cmp n number ≡ false)
      → LinkedAt (with_end_done c name seat number side t v).seats n (with_wires c.wires number v n) (map.get (map.insert b.links number l) n)
  linked_at linked n (inl same) =
      let P : ℕ → Type 0 = λ m. LinkedAt (with_end_done c name seat number side t v).seats m (with_wires c.wires number v m) (map.get (map.insert b.links number l) m) in
      let Q : Option Wires → Type 0 = λ o. LinkedAt (with_end_done c name seat number side t v).seats number o (map.get (map.insert b.links number l) number) in
      let R : Option Channel → Type 0 = λ o. LinkedAt (with_end_done c name seat number side t v).seats number (Some v) o in
      subst P (sym same) (subst Q (sym wires_here) (subst R (sym (get_new numbers b.links number l)) linked))
  linked_at linked n (inr apart) =
      let Q : Option Wires → Type 0 = λ o. LinkedAt (with_end_done c name seat number side t v).seats n o (map.get (map.insert b.links number l) n) in
      let R : Option Channel → Type 0 = λ o. LinkedAt (with_end_done c name seat number side t v).seats n (c.wires n) o in
      subst Q (sym (wires_there n apart)) (subst R (sym (get_other numbers b.links number l n apart)) (linked_same n apart (c.wires n) (map.get b.links n) (s.links n)))

  side_stands : (q : Text) (n : ℕ) (x : LinkSide) → HasSide (with_end_done c name seat number side t v).seats q n x → IsOfLink (with_wires c.wires number v) q n ⊎ (is_taken x ≡ false)
  side_stands q n x h = elim (same_or_not numbers n number) [
    | inl same ↦ elim (same_or_not texts q name) [
      | inl named ↦ inl (let P : Text → Type 0 = λ z. IsOfLink (with_wires c.wires number v) z n in let Q : ℕ → Type 0 = λ m. IsOfLink (with_wires c.wires number v) name m in
          subst P (sym named) (subst Q (sym same) (v, wires_here, end_named name of)))
      | inr away ↦ elim (s.sides q n x (side_had q n x (inl away) h)) [ inl l ↦ inl (of_link q n l) | inr free ↦ inr free ]
    ]
    | inr apart ↦ elim (s.sides q n x (side_had q n x (inr apart) h)) [ inl l ↦ inl (of_link q n l) | inr free ↦ inr free ]
  ]

  still_fresh : (q : Text) (n : ℕ) (x : LinkSide) → HasSide (with_end_done c name seat number side t v).seats q n x → c.opened < n → ⊥
  still_fresh q n x h less = elim (same_or_not numbers n number) [
    | inl same ↦ s.fresh name number was (seat, is, had) (subst (λ (m : ℕ). c.opened < m) same less)
    | inr apart ↦ s.fresh q n x (side_had q n x (inr apart) h) less
  ]

  pub done_shows : IsLinked (with_end_done c name seat number side t v).seats number v l → ShowsBytes (with_end_done c name seat number side t v) (with_done b name t number l)
  done_shows linked = record {
    time = s.time;
    opened = s.opened;
    desks = λ q. desk_after q (same_text q name) (s.desks q);
    links = λ n. linked_at linked n (same_or_not numbers n number);
    sides = side_stands;
    fresh = still_fresh;
  }

-- ---- either end

module _ (c : Contents) (b : ByteWorld) (s : ShowsBytes c b) (number : ℕ) (w v : Wires) (k : Channel) (wired : c.wires number ≡ Some w) (linked : IsLinked c.seats number w k) (caller : v.caller ≡ w.caller) (receiver : v.receiver ≡ w.receiver)
    (seat : Seat) (ear : Feeding) (x : Effect) (t : Desk) (wire : List ℕ) where
  pub caller_done : c.seats w.caller ≡ Some seat → map.get seat.sides number ≡ Some (side_of false k.caller) → x.core.site ≡ k.caller.core.site → v.to_caller.items ≡ wire → v.to_receiver.items ≡ w.to_receiver.items ++ bytes_of x.acts
      → ShowsBytes (with_end_done c w.caller seat number (side_of false (record { core = x.core; ear = ear })) t v) (with_done b w.caller t number (caller_as k wire ear x))
  caller_done is had site at_caller at_receiver =
      let side : LinkSide = side_of false (record { core = x.core; ear = ear }) in
      done_shows c b s number w v k (caller_as k wire ear x) wired caller receiver w.caller seat is (side_of false k.caller) side had t (inl refl) (record {
        caller = ap (λ (o : Option Part). (site_in o).name) site ∙ (linked.caller ∙ sym caller);
        receiver = linked.receiver ∙ sym receiver;
        apart = λ e. linked.apart (sym caller ∙ (e ∙ receiver));
        at_caller = (let P : Text → Type 0 = λ q. HasSide (with_end_done c w.caller seat number side t v).seats q number side in
            subst P (sym caller) (side_here c b s number w v k k wired caller receiver w.caller seat is (side_of false k.caller) side had t (inl refl)));
        at_receiver = (let P : Text → Type 0 = λ q. HasSide (with_end_done c w.caller seat number side t v).seats q number (side_of true k.receiver) in
            subst P (sym receiver) (side_kept c b s number w v k k wired caller receiver w.caller seat is (side_of false k.caller) side had t (inl refl) w.receiver number (side_of true k.receiver)
            (inl (apart_texts w.receiver w.caller (λ e. linked.apart (sym e)))) linked.at_receiver));
        to_caller = sym at_caller;
        to_receiver = ap (λ (z : List ℕ). z ++ bytes_of x.acts) linked.to_receiver ∙ sym at_receiver;
      })

  pub receiver_done : c.seats w.receiver ≡ Some seat → map.get seat.sides number ≡ Some (side_of true k.receiver) → x.core.site ≡ k.receiver.core.site → v.to_receiver.items ≡ wire → v.to_caller.items ≡ w.to_caller.items ++ bytes_of x.acts
      → ShowsBytes (with_end_done c w.receiver seat number (side_of true (record { core = x.core; ear = ear })) t v) (with_done b w.receiver t number (receiver_as k wire ear x))
  receiver_done is had site at_receiver at_caller =
      let side : LinkSide = side_of true (record { core = x.core; ear = ear }) in
      done_shows c b s number w v k (receiver_as k wire ear x) wired caller receiver w.receiver seat is (side_of true k.receiver) side had t (inr refl) (record {
        caller = linked.caller ∙ sym caller;
        receiver = ap (λ (o : Option Part). (site_in o).name) site ∙ (linked.receiver ∙ sym receiver);
        apart = λ e. linked.apart (sym caller ∙ (e ∙ receiver));
        at_caller = (let P : Text → Type 0 = λ q. HasSide (with_end_done c w.receiver seat number side t v).seats q number (side_of false k.caller) in
            subst P (sym caller) (side_kept c b s number w v k k wired caller receiver w.receiver seat is (side_of true k.receiver) side had t (inr refl) w.caller number (side_of false k.caller)
            (inl (apart_texts w.caller w.receiver linked.apart)) linked.at_caller));
        at_receiver = (let P : Text → Type 0 = λ q. HasSide (with_end_done c w.receiver seat number side t v).seats q number side in
            subst P (sym receiver) (side_here c b s number w v k k wired caller receiver w.receiver seat is (side_of true k.receiver) side had t (inr refl)));
        to_caller = ap (λ (z : List ℕ). z ++ bytes_of x.acts) linked.to_caller ∙ sym at_caller;
        to_receiver = sym at_receiver;
      })
