-- What another product writes, in both worlds.
use Rattle.std.proofs.Common.{◌≡◌, ◌⊎◌, ℕ, Bool, true, false, cond, List, Option, None, Some, refl, sym, ap, subst, ◌∙◌, inl, inr}
use Rattle.std.specs.Ordering.{nat_cmp, eq_by_cmp}
use Rattle.std.specs.Cmp.{eq_by_cmp_equiv}
use Rattle.std.specs.FinMap as map
use Rattle.std.specs.BTreeMap as tree
use Rattle.std.specs.BTreeMap.{BTreeMap, is_at}
use Rattle.dr_base.specs.Texts.{Text}
use Rattle.dr_plan_model.specs.Networks.{Network}
use Rattle.dr_plan_sound.specs.declared.certificate.Certificate.{Certificate}
use Rattle.dr_ledger.specs.declared.ledger.Ledger.{Ghosts}
use Rattle.dr_ledger.proofs.Maps.{same_or_not, ties_itself, get_new, get_other}
use Rattle.dr_node.specs.declared.links.LinkSide.{LinkSide}
use Rattle.dr_node.specs.declared.node.Node.{Node}
use Rattle.dr_node.specs.Sides.{is_taken}
use Rattle.dr_world_model.proofs.Lookups.{numbers}
use Rattle.dr_world_tie.specs.Channels.{Channel}
use Rattle.dr_world_tie.specs.ByteWorlds.{ByteWorld, Side, Requestor, Acceptor}
use Rattle.dr_world.specs.declared.steps.StepNote.{StepNote}
use Rattle.dr_world.specs.declared.steps.StepNote.TheVariants.{Done, Skipped}
use Rattle.dr_world.specs.declared.wires.Wires.{Wires}
use Rattle.dr_world.specs.declared.world.World.{World}
use Rattle.dr_world.specs.Nodes.{AllStandIn, seats_of}
use Rattle.dr_world.specs.Others.{AreRewritten, Writes, WritesAt, WritesAtIn, WritesIn, with_wires_at, with_written}
use Rattle.dr_world.specs.Shows.{Contents, HasSide, IsLinked, IsOfLink, IsSeated, LinkedAt, ShowsBytes, side_of, with_wires}
use Rattle.dr_world.specs.Whole.{AllStand, contents}
use Rattle.dr_world.proofs.Counted.{linked_there}
use Rattle.dr_world.proofs.Linking.{unlinked}

-- ---- one wire of one link

module _ (c : Contents) (b : ByteWorld) (s : ShowsBytes c b) (number : ℕ) (w v : Wires) (wired : c.wires number ≡ Some w) (caller : v.caller ≡ w.caller) (receiver : v.receiver ≡ w.receiver) where
  wires_here : with_wires c.wires number v number ≡ Some v
  wires_here = ap (λ (x : Bool). cond x (Some v) (c.wires number)) (ties_itself numbers number)

  wires_there : (n : ℕ) → eq_by_cmp nat_cmp n number ≡ false → with_wires c.wires number v n ≡ c.wires n
  wires_there n apart = ap (λ (x : Bool). cond x (Some v) (c.wires n)) apart

  same_wires : (x y : Wires) → Some x ≡ Some y → x ≡ y
  same_wires x y e = cc

  end_named : (q : Text) → (q ≡ w.caller) ⊎ (q ≡ w.receiver) → (q ≡ v.caller) ⊎ (q ≡ v.receiver)
  end_named q (inl e) = inl (e ∙ sym caller)
  end_named q (inr e) = inr (e ∙ sym receiver)

  of_link : (q : Text) (n : ℕ) → IsOfLink c.wires q n → IsOfLink (with_wires c.wires number v) q n
  of_link q n (u, has, which) = elim (same_or_not numbers n number) [
    | inl same ↦
        let one : u ≡ w = same_wires u w (sym (subst (λ (m : ℕ). c.wires m ≡ Some u) same has) ∙ wired) in
        let P : ℕ → Type 0 = λ m. IsOfLink (with_wires c.wires number v) q m in
        subst P (sym same) (v, wires_here, end_named q (subst (λ (z : Wires). (q ≡ z.caller) ⊎ (q ≡ z.receiver)) one which))
    | inr apart ↦ (u, wires_there n apart ∙ has, which)
  ]

  side_stands : (q : Text) (n : ℕ) (x : LinkSide) → HasSide c.seats q n x → IsOfLink (with_wires c.wires number v) q n ⊎ (is_taken x ≡ false)
  side_stands q n x h = elim (s.sides q n x h) [ inl l ↦ inl (of_link q n l) | inr free ↦ inr free ]

  linked_at : (l : Channel) → IsLinked c.seats number v l → (n : ℕ) → (n ≡ number) ⊎ (eq_by_cmp nat_cmp n number ≡ false)
      → LinkedAt c.seats n (with_wires c.wires number v n) (map.get (map.insert b.links number l) n)
  linked_at l linked n (inl same) =
      let P : ℕ → Type 0 = λ m. LinkedAt c.seats m (with_wires c.wires number v m) (map.get (map.insert b.links number l) m) in
      let Q : Option Wires → Type 0 = λ o. LinkedAt c.seats number o (map.get (map.insert b.links number l) number) in
      let R : Option Channel → Type 0 = λ o. LinkedAt c.seats number (Some v) o in
      subst P (sym same) (subst Q (sym wires_here) (subst R (sym (get_new numbers b.links number l)) linked))
  linked_at l linked n (inr apart) =
      let Q : Option Wires → Type 0 = λ o. LinkedAt c.seats n o (map.get (map.insert b.links number l) n) in
      let R : Option Channel → Type 0 = λ o. LinkedAt c.seats n (c.wires n) o in
      subst Q (sym (wires_there n apart)) (subst R (sym (get_other numbers b.links number l n apart)) (s.links n))

  -- the contents with these wires stand beside the bytes with this channel
  pub wired_shows : (l : Channel) → IsLinked c.seats number v l → ShowsBytes (with_wires_at c number v) (record { time = b.time; desks = b.desks; links = map.insert b.links number l; opened = b.opened })
  wired_shows l linked = record {
    time = s.time;
    opened = s.opened;
    desks = s.desks;
    links = λ n. linked_at l linked n (same_or_not numbers n number);
    sides = side_stands;
    fresh = s.fresh;
  }

-- the channel of the wires that were written
relinked : (c : Contents) (number : ℕ) (w v : Wires) (k : Channel) → IsLinked c.seats number w k → (side : Side) (bytes : List ℕ) → AreRewritten side bytes w v → IsLinked c.seats number v (with_written side bytes k)
relinked c number w v k linked Requestor bytes r = record {
  caller = linked.caller ∙ sym r.caller;
  receiver = linked.receiver ∙ sym r.receiver;
  apart = λ e. linked.apart (sym r.caller ∙ (e ∙ r.receiver));
  at_caller = (let P : Text → Type 0 = λ q. HasSide c.seats q number (side_of false k.caller) in subst P (sym r.caller) linked.at_caller);
  at_receiver = (let P : Text → Type 0 = λ q. HasSide c.seats q number (side_of true k.receiver) in subst P (sym r.receiver) linked.at_receiver);
  to_caller = linked.to_caller ∙ sym r.own;
  to_receiver = sym r.other;
}
relinked c number w v k linked Acceptor bytes r = record {
  caller = linked.caller ∙ sym r.caller;
  receiver = linked.receiver ∙ sym r.receiver;
  apart = λ e. linked.apart (sym r.caller ∙ (e ∙ r.receiver));
  at_caller = (let P : Text → Type 0 = λ q. HasSide c.seats q number (side_of false k.caller) in subst P (sym r.caller) linked.at_caller);
  at_receiver = (let P : Text → Type 0 = λ q. HasSide c.seats q number (side_of true k.receiver) in subst P (sym r.receiver) linked.at_receiver);
  to_caller = sym r.other;
  to_receiver = linked.to_receiver ∙ sym r.own;
}

rewritten_shows : (c : Contents) (b : ByteWorld) → ShowsBytes c b → (number : ℕ) (w v : Wires) → c.wires number ≡ Some w → (side : Side) (bytes : List ℕ) → AreRewritten side bytes w v
    → (after : ByteWorld) × Writes b number side bytes after × ShowsBytes (with_wires_at c number v) after
rewritten_shows c b s number w v wired side bytes r =
    let there = linked_there c b s number w wired in
    let after : ByteWorld = record { time = b.time; desks = b.desks; links = map.insert b.links number (with_written side bytes there.0); opened = b.opened } in
    let P : Option Channel → Type 0 = λ o. WritesIn o b number side bytes after in
    (after, subst P (sym there.1) refl, wired_shows c b s number w v wired r.caller r.receiver (with_written side bytes there.0) (relinked c number w v there.0 there.2 side bytes r))

-- ---- from world to world

module _ {L : Type 0} {l : Ghosts L} (old new : World L l) (link : ℕ) (side : Side) (bytes : List ℕ) (note : StepNote) where
  stood_in : (o : Option Wires) → WritesAtIn o link side bytes old note new → AllStand new → AllStand old
  stood_in None h all = (let P : BTreeMap Text (Node L l) → Type 0 = λ m. AllStandIn m in subst P h.1 all)
  stood_in (Some w) h all = (let P : BTreeMap Text (Node L l) → Type 0 = λ m. AllStandIn m in subst P h.1 all)

  pub stood : WritesAt link side bytes old note new → AllStand new → AllStand old
  stood = stood_in (tree.get nat_cmp old.wires link)

  written_in : (o : Option Wires) → tree.get nat_cmp old.wires link ≡ o → WritesAtIn o link side bytes old note new → (plan : Network) (certificate : Certificate) (b : ByteWorld) → IsSeated plan certificate (contents old).seats → ShowsBytes (contents old) b
      → IsSeated plan certificate (contents new).seats × ((after : ByteWorld) × Writes b link side bytes after × ShowsBytes (contents new) after)
  written_in None none h plan certificate b seated s =
      let S : Contents → Type 0 = λ x. IsSeated plan certificate x.seats in
      let B : Contents → Type 0 = λ x. ShowsBytes x b in
      let P : Option Channel → Type 0 = λ o. WritesIn o b link side bytes b in
      (subst S (sym h.2) seated, (b, subst P (sym (unlinked (contents old) b s link none)) refl, subst B (sym h.2) s))
  written_in (Some w) has (done, nodes, (v, r, is)) plan certificate b seated s =
      let shown = rewritten_shows (contents old) b s link w v has side bytes r in
      let S : Contents → Type 0 = λ x. IsSeated plan certificate x.seats in
      let B : Contents → Type 0 = λ x. ShowsBytes x shown.0 in
      (subst S (sym is) seated, (shown.0, shown.1, subst B (sym is) shown.2))

  pub written_beside : WritesAt link side bytes old note new → (plan : Network) (certificate : Certificate) (b : ByteWorld) → IsSeated plan certificate (contents old).seats → ShowsBytes (contents old) b
      → IsSeated plan certificate (contents new).seats × ((after : ByteWorld) × Writes b link side bytes after × ShowsBytes (contents new) after)
  written_beside = written_in (tree.get nat_cmp old.wires link) refl

-- ---- as the call has it

pub unwritten : {L : Type 0} {l : Ghosts L} (w : World L l) (wires : BTreeMap ℕ Wires) (link : ℕ) (side : Side) (bytes : List ℕ) → None ≡ tree.get nat_cmp w.wires link → wires ≡ w.wires
    → WritesAt link side bytes w Skipped (record { alloc = w.alloc; time = w.time; opened = w.opened; nodes = w.nodes; wires = wires; lost = w.lost })
unwritten {L} {l} w wires link side bytes none same =
    let new : World L l = record { alloc = w.alloc; time = w.time; opened = w.opened; nodes = w.nodes; wires = wires; lost = w.lost } in
    let P : Option Wires → Type 0 = λ o. WritesAtIn o link side bytes w Skipped new in
    subst P none (refl, refl, ap (λ (m : BTreeMap ℕ Wires). contents (let v : World L l = record { alloc = w.alloc; time = w.time; opened = w.opened; nodes = w.nodes; wires = m; lost = w.lost } in v)) same)

module _ {L : Type 0} {l : Ghosts L} (old : World L l) (link : ℕ) (side : Side) (bytes : List ℕ) (w v : Wires) (wires : BTreeMap ℕ Wires) (wired : Some w ≡ tree.get nat_cmp old.wires link)
    (updates : (q : ℕ) → tree.get nat_cmp wires q ≡ cond (is_at (nat_cmp link) q) (Some v) (tree.get nat_cmp old.wires q)) where
  wires_at : (q : ℕ) → tree.get nat_cmp wires q ≡ with_wires (contents old).wires link v q
  wires_at q = updates q ∙ ap (λ (b : Bool). cond b (Some v) (tree.get nat_cmp old.wires q)) ((eq_by_cmp_equiv numbers.total).symm link q)

  pub written : AreRewritten side bytes w v → WritesAt link side bytes old Done (record { alloc = old.alloc; time = old.time; opened = old.opened; nodes = old.nodes; wires = wires; lost = old.lost })
  written r =
      let new : World L l = record { alloc = old.alloc; time = old.time; opened = old.opened; nodes = old.nodes; wires = wires; lost = old.lost } in
      let P : Option Wires → Type 0 = λ o. WritesAtIn o link side bytes old Done new in
      subst P wired (refl, refl, (v, r, λ i. record { now = old.time.passed; opened = old.opened; seats = seats_of old.nodes; wires = λ q. wires_at q i }))
