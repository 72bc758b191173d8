-- A link that a world opened, as its contents show it.
use Rattle.std.proofs.Common.{◌≡◌, ◌≢◌, ℕ, ◌+◌, ◌++◌, Bool, true, false, cond, List, [], Option, None, Some, Ok, refl, sym, ap, subst, ◌∙◌, inl, inr, ◌⊎◌}
use Rattle.std.proofs.Math.Logic.{∥∥₁_map, ∥∥₁_elim, ∥∥₁_prop}
use Rattle.std.proofs.lemmas.List.{append-nil}
use Rattle.std.specs.Option.{option_map}
use Rattle.std.specs.Ordering.{nat_cmp}
use Rattle.std.specs.Cmp.{eq_by_cmp_equiv}
use Rattle.std.specs.FinMap as map
use Rattle.std.specs.BTreeMap as tree
use Rattle.std.specs.BTreeMap.{BTreeMap, is_at}
use Rattle.dr_base.specs.Texts.{Text, text_cmp}
use Rattle.dr_plan_model.specs.Networks.{Network}
use Rattle.dr_plan_sound.specs.declared.certificate.Certificate.{Certificate}
use Rattle.dr_plan_sound.specs.declared.certificate.Hop.{Hop}
use Rattle.dr_site.specs.Parts.{Part, IsPartOf}
use Rattle.dr_site.specs.Sites.{IsCertified}
use Rattle.dr_site.proofs.ContextsAsPlanned.{own_hop}
use Rattle.dr_nego.specs.Proposing.{IsHopTo}
use Rattle.dr_ledger.specs.declared.ledger.Ledger.{Ghosts}
use Rattle.dr_ledger.proofs.Maps.{texts, same_or_not, ties_itself}
use Rattle.dr_session.specs.declared.ends.LinkAction.{LinkAction}
use Rattle.dr_session.specs.declared.desk.LedgerDesk.{LedgerDesk}
use Rattle.dr_session.specs.Ends.{Terminal, OpensTo}
use Rattle.dr_session.specs.Ledgers.{desk}
use Rattle.dr_node.specs.declared.links.LinkSide.{LinkSide}
use Rattle.dr_node.specs.declared.node.Node.{Node}
use Rattle.dr_node.specs.Sides.{Sides, AcceptsIn, OpensIn, accepts_at}
use Rattle.dr_world_model.proofs.Lookups.{numbers}
use Rattle.dr_world_model.specs.Worlds.{same_text}
use Rattle.dr_world_model.specs.Events.{HasNode}
use Rattle.dr_world_tie.specs.Channels.{bytes_of}
use Rattle.dr_world.specs.Ends.{AreWritten}
use Rattle.dr_world_tie.specs.ByteWorlds.{ByteWorld, Requestor, Open, Skipped as WasSkipped, HasNoHop}
use Rattle.dr_world.specs.declared.steps.StepNote.TheVariants as note
use Rattle.dr_world.specs.declared.wires.Wires.{Wires}
use Rattle.dr_world.specs.declared.world.World.{World}
use Rattle.dr_world.specs.Shows.{Contents, Seat, Seats, ShowsBytes, IsSeated, Becomes, with_seat, with_side, with_wires}
use Rattle.dr_world.specs.Opened.{IsLinkOpened, asks_at}
use Rattle.dr_world.specs.Nodes.{AllStandIn, HasSides, OpensAt, AcceptsAt, seat_of, seats_of}
use Rattle.dr_world.specs.Whole.{AllStand, StepsTo, contents}
use Rattle.dr_world.proofs.Opening.{hops_elsewhere, opened_becomes}

-- ---- a node with other sides

module _ {L : Type 0} {l : Ghosts L} (name : Text) (n : Node L l) (sides : Sides) (old new : BTreeMap Text (Node L l)) (h : HasSides name n sides old new) where
  here : tree.get text_cmp new name ≡ Some h.after
  here = h.at name ∙ ap (λ (b : Bool). cond b (Some h.after) (tree.get text_cmp old name)) (ties_itself texts name)

  there : (q : Text) → same_text q name ≡ false → tree.get text_cmp new q ≡ tree.get text_cmp old q
  there q apart = h.at q ∙ ap (λ (b : Bool). cond b (Some h.after) (tree.get text_cmp old q)) apart

  stood_before : AllStandIn new → AllStandIn old
  stood_before all q m is = elim (same_or_not texts q name) [
    | inl same ↦
        let one : Some n ≡ Some m = sym h.was ∙ (ap (tree.get text_cmp old) (sym same) ∙ is) in
        let it : n ≡ m = cc in
        subst (λ (x : Node L l). l.stands x.desk.ledger) it (subst (λ (d : LedgerDesk L). l.stands d.ledger) h.desk (all name h.after here))
    | inr apart ↦ all q m (there q apart ∙ is)
  ]

  seat_after : seat_of h.after ≡ (let s : Seat = record { site = l.site n.desk.ledger; sides = sides; desk = desk (l.book n.desk.ledger) (l.armed n.desk.ledger) } in s)
  seat_after = λ i. record { site = l.site (h.desk i).ledger; sides = h.links i; desk = desk (l.book (h.desk i).ledger) (l.armed (h.desk i).ledger) }

  by_name : (q : Text) (b : Bool) → option_map seat_of (cond b (Some h.after) (tree.get text_cmp old q))
      ≡ cond b (Some (let s : Seat = record { site = l.site n.desk.ledger; sides = sides; desk = desk (l.book n.desk.ledger) (l.armed n.desk.ledger) } in s)) (option_map seat_of (tree.get text_cmp old q))
  by_name q true = ap Some seat_after
  by_name q false = refl

  seats_after : (q : Text) → seats_of new q ≡ with_seat (seats_of old) name (record { site = l.site n.desk.ledger; sides = sides; desk = desk (l.book n.desk.ledger) (l.armed n.desk.ledger) }) q
  seats_after q = ap (option_map seat_of) (h.at q) ∙ by_name q (same_text q name)

-- ---- what was opened

-- the request that was written, and the side that wrote it
opened_side : (site : Part) (dest : Text) (link now : ℕ) (o : Option LinkSide) (old new : Sides) (acts : List LinkAction) → OpensIn o site dest link now old (Ok acts) new → (end : Terminal) × OpensTo site dest now (Ok (end, acts)) × (new ≡ map.insert old link (record { end = end; accepted = false }))
opened_side site dest link now None old new acts h = h
opened_side site dest link now (Some side) old new acts h = absurd h

accepted_side : (site : Part) (link now : ℕ) (o : Option LinkSide) (old new : Sides) → AcceptsIn o site link now old (Ok tt) new → new ≡ map.insert old link (accepts_at site now)
accepted_side site link now None old new h = h
accepted_side site link now (Some side) old new h = absurd h

module _ {L : Type 0} {l : Ghosts L} (old new : World L l) (from to : Text) (acts : List LinkAction) (mid : BTreeMap Text (Node L l)) (time : new.time ≡ old.time) (next : new.opened ≡ old.opened + 1)
    (opens : OpensAt from to new.opened old.time.passed old.nodes (Some acts) mid) (accepts : AcceptsAt to new.opened old.time.passed mid new.nodes) (w : Wires) (caller : w.caller ≡ from) (receiver : w.receiver ≡ to) (to_caller : w.to_caller.items ≡ [])
    (to_receiver : w.to_receiver.items ≡ bytes_of acts) (updates : (q : ℕ) → tree.get nat_cmp new.wires q ≡ cond (is_at (nat_cmp new.opened) q) (Some w) (tree.get nat_cmp old.wires q)) where
  stood : AllStand new → AllStand old
  stood all = stood_before from opens.0 opens.1 old.nodes mid opens.4 (stood_before to accepts.0 accepts.1 mid new.nodes accepts.3 all)

  wires_at : (q : ℕ) → tree.get nat_cmp new.wires q ≡ with_wires (contents old).wires (old.opened + 1) w q
  wires_at q = updates q ∙ (ap (λ (b : Bool). cond b (Some w) (tree.get nat_cmp old.wires q)) ((eq_by_cmp_equiv numbers.total).symm new.opened q)
      ∙ ap (λ (m : ℕ). with_wires (contents old).wires m w q) next)

  module _ (away : to ≢ from) (near_site : l.site opens.0.desk.ledger ≡ opens.0.site) (far_site : l.site accepts.0.desk.ledger ≡ accepts.0.site) where
    far_was : tree.get text_cmp old.nodes to ≡ Some accepts.0
    far_was = sym (there from opens.0 opens.1 old.nodes mid opens.4 to (by_case (same_or_not texts to from))) ∙ accepts.3.was
      where
        by_case : (to ≡ from) ⊎ (same_text to from ≡ false) → same_text to from ≡ false
        by_case (inl e) = absurd (away e)
        by_case (inr apart) = apart

    abbrev o : (end : Terminal) × OpensTo opens.0.site to old.time.passed (Ok (end, acts)) × (opens.1 ≡ map.insert opens.0.links new.opened (record { end = end; accepted = false }))
    o = opened_side opens.0.site to new.opened old.time.passed (map.get opens.0.links new.opened) opens.0.links opens.1 acts opens.3

    near_side : opens.1 ≡ map.insert (seat_of opens.0).sides (old.opened + 1) (asks_at (l.site opens.0.desk.ledger) to o.1.1 old.time.passed)
    near_side =
        o.2 ∙ (ap (λ (e : Terminal). map.insert opens.0.links new.opened (let s : LinkSide = record { end = e; accepted = false } in s)) o.1.3
        ∙ (ap (λ (p : Part). map.insert opens.0.links new.opened (asks_at p to o.1.1 old.time.passed)) (sym near_site) ∙ ap (λ (m : ℕ). map.insert opens.0.links m (asks_at (l.site opens.0.desk.ledger) to o.1.1 old.time.passed)) next))

    far_side : accepts.1 ≡ map.insert (seat_of accepts.0).sides (old.opened + 1) (accepts_at (l.site accepts.0.desk.ledger) old.time.passed)
    far_side =
        accepted_side accepts.0.site new.opened old.time.passed (map.get accepts.0.links new.opened) accepts.0.links accepts.1 accepts.2
        ∙ (ap (λ (p : Part). map.insert accepts.0.links new.opened (accepts_at p old.time.passed)) (sym far_site) ∙ ap (λ (m : ℕ). map.insert accepts.0.links m (accepts_at (l.site accepts.0.desk.ledger) old.time.passed)) next)

    near_now : Seat
    near_now = with_side (seat_of opens.0) (old.opened + 1) (asks_at (l.site opens.0.desk.ledger) to o.1.1 old.time.passed) (seat_of opens.0).desk

    seats_at : (q : Text) → seats_of new.nodes q ≡ with_seat (with_seat (seats_of old.nodes) from (with_side (seat_of opens.0) (old.opened + 1) (asks_at (l.site opens.0.desk.ledger) to o.1.1 old.time.passed) (seat_of opens.0).desk)) to
        (with_side (seat_of accepts.0) (old.opened + 1) (accepts_at (l.site accepts.0.desk.ledger) old.time.passed) (seat_of accepts.0).desk) q
    seats_at q =
        seats_after to accepts.0 accepts.1 mid new.nodes accepts.3 q
        ∙ (ap (λ (m : Sides). with_seat (seats_of mid) to (let s : Seat = record { site = l.site accepts.0.desk.ledger; sides = m; desk = (seat_of accepts.0).desk } in s) q) far_side
        ∙ (ap (λ (before : Option Seat). cond (same_text q to) (Some (with_side (seat_of accepts.0) (old.opened + 1) (accepts_at (l.site accepts.0.desk.ledger) old.time.passed) (seat_of accepts.0).desk)) before)
        (seats_after from opens.0 opens.1 old.nodes mid opens.4 q
        ∙ ap (λ (m : Sides). with_seat (seats_of old.nodes) from (let s : Seat = record { site = l.site opens.0.desk.ledger; sides = m; desk = (seat_of opens.0).desk } in s) q) near_side)))

    pub is_opened : IsLinkOpened from to (contents old) (contents new)
    is_opened = record {
      near = seat_of opens.0;
      far = seat_of accepts.0;
      is_near = ap (option_map seat_of) opens.4.was;
      is_far = ap (option_map seat_of) far_was;
      rq = o.1.1;
      proposal = (let P : Part → Type 0 = λ p. Rattle.dr_nego.specs.Proposing.IsProposal p to o.1.1 in subst P (sym near_site) o.1.2);
      hop = opens.2.0;
      goes = (let P : Part → Type 0 = λ p. IsHopTo p to opens.2.0 in subst P (sym near_site) opens.2.1);
      wires = w;
      caller = caller;
      receiver = receiver;
      to_caller = to_caller;
      to_receiver = to_receiver ∙ (ap bytes_of o.1.4 ∙ append-nil _);
      is = (λ i. record { now = (time i).passed; opened = next i; seats = λ q. seats_at q i; wires = λ q. wires_at q i });
    }

  pub opening : StepsTo (Open from to) old note.Done new
  opening = (
    stood,
    λ plan certificate certified b seated s all.
        let e = seated.each from (seat_of opens.0) (ap (option_map seat_of) opens.4.was) in
        let R : Type 0 = ∥ IsLinkOpened from to (contents old) (contents new) ∥₁ in
        let made : ∥ IsLinkOpened from to (contents old) (contents new) ∥₁ =
        ∥∥₁_elim opens.0.of ∥∥₁_prop (λ near. ∥∥₁_map accepts.0.of (λ far. is_opened (λ same. hops_elsewhere plan certificate certified (l.site opens.0.desk.ledger) e.1 to opens.2.0
        (let P : Part → Type 0 = λ p. IsHopTo p to opens.2.0 in subst P (sym near) opens.2.1) (e.0 ∙ sym same)) near far)) in
        (seated_in plan certificate certified b seated s, ∥∥₁_map made (λ o. opened_becomes plan certificate certified (contents old) b seated s from to (contents new) o)),
  )
    where
      seated_in : (plan : Network) (certificate : Certificate) → IsCertified plan certificate → (b : ByteWorld) → IsSeated plan certificate (contents old).seats → ShowsBytes (contents old) b → IsSeated plan certificate (contents new).seats
      seated_in plan certificate certified b seated s =
          let first = Rattle.dr_world.proofs.Doing.still_seated plan certificate (seats_of old.nodes) from (seat_of opens.0) (record { site = l.site opens.0.desk.ledger; sides = opens.1; desk = (seat_of opens.0).desk }) (ap (option_map seat_of) opens.4.was) refl seated in
          let S : Seats → Type 0 = λ z. IsSeated plan certificate z in
          let middle : IsSeated plan certificate (seats_of mid) = subst S (λ i q. sym (seats_after from opens.0 opens.1 old.nodes mid opens.4 q) i) first in
          let second = Rattle.dr_world.proofs.Doing.still_seated plan certificate (seats_of mid) to (seat_of accepts.0) (record { site = l.site accepts.0.desk.ledger; sides = accepts.1; desk = (seat_of accepts.0).desk }) (ap (option_map seat_of) accepts.3.was) refl middle in
          subst S (λ i q. sym (seats_after to accepts.0 accepts.1 mid new.nodes accepts.3 q) i) second

-- ---- none

nothing : (a b : ⊥) → a ≡ b
nothing a b = absurd a

module _ {L : Type 0} {l : Ghosts L} (old : World L l) (from to : Text) (none : (n : Node L l) → tree.get text_cmp old.nodes from ≡ Some n → (hop : Hop) → IsHopTo n.site to hop → ⊥) (plan : Network) (certificate : Certificate)
    (seated : IsSeated plan certificate (contents old).seats) where
  at_node : (caller : Part) → IsPartOf plan certificate caller → caller.name ≡ from → (hop : Hop) → IsHopTo caller to hop → (o : Option (Node L l)) → tree.get text_cmp old.nodes from ≡ o → (seat : Seat) → option_map seat_of o ≡ Some seat → ⊥
  at_node caller is named hop goes None e seat f = (let x : None ≡ Some seat = f in let y : ⊥ = cc in y)
  at_node caller is named hop goes (Some n) e seat f =
      let own = seated.each from (seat_of n) (ap (option_map seat_of) e) in
      let listed = (own_hop plan certificate caller is hop).0 goes.0 in
      let here = (own_hop plan certificate (l.site n.desk.ledger) own.1 hop).1 (listed.0, listed.1 ∙ (named ∙ sym own.0)) in
      let P : Part → Type 0 = λ p. IsHopTo p to hop in
      ∥∥₁_elim n.of nothing (λ near. none n e hop (subst P near (here, goes.1)))

  no_hop : HasNoHop plan certificate from to
  no_hop caller is named hop goes =
      let N : Text → Type 0 = λ q. HasNode plan q in
      let has = seated.all from (subst N named (is.node.0, is.node.1.0)) in
      at_node caller is named hop goes (tree.get text_cmp old.nodes from) refl has.0 has.1

pub unopened : {L : Type 0} {l : Ghosts L} (old new : World L l) (from to : Text) (link : ℕ) → new.time ≡ old.time → new.opened ≡ old.opened → new.wires ≡ old.wires → OpensAt from to link old.time.passed old.nodes None new.nodes → StepsTo (Open from to) old note.Skipped new
unopened {L} {l} old new from to link time opened wires h =
    let same : contents new ≡ contents old = (λ i. record { now = (time i).passed; opened = opened i; seats = λ q. option_map seat_of (h.1 q i); wires = λ q. tree.get nat_cmp (wires i) q }) in (
      (λ all q m is. all q m (h.1 q ∙ is)),
      λ plan certificate certified b seated s all.
          let S : Contents → Type 0 = λ z. IsSeated plan certificate z.seats in
          let B : Contents → Type 0 = λ z. Becomes plan certificate b (Open from to) WasSkipped z in
          (subst S (sym same) seated, ∣ subst B (sym same) (b, inr (no_hop old from to h.0 plan certificate seated, (refl, refl)), s) ∣₁),
    )

-- as the calls have it
pub unopened_as : {L : Type 0} {l : Ghosts L} (old : World L l) (from to : Text) (link now : ℕ) (o : Option (List LinkAction)) (nodes : BTreeMap Text (Node L l)) → o ≡ None → now ≡ old.time.passed → OpensAt from to link now old.nodes o nodes
    → StepsTo (Open from to) old note.Skipped (record { alloc = old.alloc; time = old.time; opened = old.opened; nodes = nodes; wires = old.wires; lost = old.lost })
unopened_as {L} {l} old from to link now o nodes none at h =
    let new : World L l = record { alloc = old.alloc; time = old.time; opened = old.opened; nodes = nodes; wires = old.wires; lost = old.lost } in
    let P : Option (List LinkAction) → Type 0 = λ x. OpensAt from to link now old.nodes x nodes in
    let Q : ℕ → Type 0 = λ m. OpensAt from to link m old.nodes None nodes in
    unopened old new from to link refl refl refl (subst Q at (subst P none h))

pub opening_as : {L : Type 0} {l : Ghosts L} (old : World L l) (from to : Text) (link now : ℕ) (o : Option (List LinkAction)) (acts written_acts : List LinkAction) (mid nodes : BTreeMap Text (Node L l)) (wires : BTreeMap ℕ Wires) (v w : Wires) → o ≡ Some acts → now ≡ old.time.passed
    → link ≡ old.opened + 1 → OpensAt from to link now old.nodes o mid → AcceptsAt to link now mid nodes → v.caller ≡ from → v.receiver ≡ to → v.to_caller.items ≡ [] → v.to_receiver.items ≡ [] → written_acts ≡ acts → AreWritten Requestor 0 written_acts v w
    → ((q : ℕ) → tree.get nat_cmp wires q ≡ cond (is_at (nat_cmp link) q) (Some w) (tree.get nat_cmp old.wires q))
    → StepsTo (Open from to) old note.Done (record { alloc = old.alloc; time = old.time; opened = link; nodes = nodes; wires = wires; lost = old.lost })
opening_as {L} {l} old from to link now o acts written_acts mid nodes wires v w some at next opens accepts caller receiver to_caller to_receiver same written updates =
    let new : World L l = record { alloc = old.alloc; time = old.time; opened = link; nodes = nodes; wires = wires; lost = old.lost } in
    let P : Option (List LinkAction) → Type 0 = λ x. OpensAt from to link now old.nodes x mid in
    let Q : ℕ → Type 0 = λ m. OpensAt from to link m old.nodes (Some acts) mid in
    let R : ℕ → Type 0 = λ m. AcceptsAt to link m mid nodes in
    opening old new from to acts mid refl next (subst Q at (subst P some opens)) (subst R at accepts) w (written.caller ∙ caller) (written.receiver ∙ receiver) (written.own ∙ to_caller)
    (written.other ∙ (ap (λ (z : List ℕ). z ++ bytes_of written_acts) to_receiver ∙ ap bytes_of same)) updates
