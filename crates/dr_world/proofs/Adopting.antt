-- All nodes of a world take another plan: what comes of it stands beside what comes of a world of
-- bytes.
use Rattle.std.proofs.Common.{◌≡◌, ℕ, ◌+◌, ◌<◌, ◌≤◌, Bool, true, false, cond, List, [], ◌∷◌, ◌++◌}
use Rattle.std.proofs.Common.{length, take, drop, get_or, append_assoc, map as mapped, Option, None}
use Rattle.std.proofs.Common.{Some, Result, Ok, Err, refl, sym, ap, subst, ◌∙◌, inl, inr, ◌⊎◌}
use Rattle.std.specs.Prelude.{◌&&◌, ◌↔◌, not, Contains, OnOk}
use Rattle.std.specs.declared.cmp.Ordering.TheVariants.{Less}
use Rattle.std.specs.Ordering.{nat_cmp, eq_by_cmp, ordering_reverse}
use Rattle.std.specs.Cmp.{eq_by_cmp_equiv}
use Rattle.std.specs.Option.{option_map}
use Rattle.std.specs.List.{AllByRecursion, list_any}
use Rattle.std.specs.List.Sorted.{IsStrictlySortedBy}
use Rattle.std.specs.FinMap as map
use Rattle.std.specs.BTreeMap as tree
use Rattle.std.specs.BTreeMap.{BTreeMap, is_at}
use Rattle.std.proofs.Math.Logic.{∥∥₁_map, ∥∥₁_elim}
use Rattle.std.proofs.lemmas.Bool.{false≢true}
use Rattle.std.proofs.lemmas.List.{take_all, take_more, take-append-drop}
use Rattle.std.proofs.lemmas.List.Elements.{All-from_recursion, All-contains, Contains-append_left}
use Rattle.std.proofs.lemmas.List.Elements.{Contains-push, Contains-push_cases}
use Rattle.std.proofs.lemmas.List.Sorted.{Contains-permutation, IsPermutation-sym}
use Rattle.std.proofs.lemmas.List.Folds.{Any-from_list_any, list_any_at}
use Rattle.std.proofs.lemmas.Map.Views.{tells_apart, Contains-keys_from_lookup}
use Rattle.dr_base.specs.Texts.{Text, text_cmp}
use Rattle.dr_plan_model.specs.Networks.{Network}
use Rattle.dr_plan_model.specs.declared.plan.Node.{Node as PlannedNode}
use Rattle.dr_plan_model.proofs.Gathered.{Contains-cons_cases, Contains-here, Contains-there}
use Rattle.dr_plan_model.proofs.Gathered.{nothing_in_nil}
use Rattle.dr_plan_sound.specs.declared.certificate.Certificate.{Certificate}
use Rattle.dr_site.specs.Parts.{Part, IsPartOf}
use Rattle.dr_ledger.specs.declared.ledger.Ledger.{Ghosts}
use Rattle.dr_ledger.specs.Adopting.{IsFit, Unfits}
use Rattle.dr_ledger.specs.Pairs.{Pair}
use Rattle.dr_ledger.specs.Books.{Book, Adoption, after, empty_book}
use Rattle.dr_ledger.proofs.Maps.{texts, same_or_not, ties_itself, cases_of}
use Rattle.dr_session.specs.Ledgers.{Desk, desk}
use Rattle.dr_node.specs.declared.links.LinkSide.{LinkSide}
use Rattle.dr_node.specs.declared.node.Node.{Node}
use Rattle.dr_node.specs.Sides.{Sides}
use Rattle.dr_world_model.specs.Worlds.{same_text}
use Rattle.dr_world_model.specs.Events.{HasNode}
use Rattle.dr_world_model.proofs.AdoptionsKept.{node_or_not}
use Rattle.dr_world_model.proofs.Lookups.{numbers}
use Rattle.dr_world_tie.specs.Channels.{Channel}
use Rattle.dr_world_tie.specs.ByteWorlds.{ByteWorld, is_over}
use Rattle.dr_world_tie.specs.Changes.{AllAreOver, TakesPlan}
use Rattle.dr_world.specs.declared.fault.WorldFault.{WorldFault}
use Rattle.dr_world.specs.declared.wires.Wires.{Wires}
use Rattle.dr_world.specs.declared.world.World.{World}
use Rattle.dr_world.specs.declared.changing.Change.TheVariants.{Adopted, Skipped, Unfit}
use Rattle.dr_world.specs.Adopted.{AddsAbsent, AddsIn, AllJoin, AllStay, AllTake, AreFit}
use Rattle.dr_world.specs.Adopted.{AreJoining}
use Rattle.dr_world.specs.Adopted.{AreNodes, ChangesTo, ComesTo, Finds, HasGoneOver, IsFirstUnfit}
use Rattle.dr_world.specs.Adopted.{LooksAt, TakesAt, Took, is_on, is_on_at, some_is_on}
use Rattle.dr_plan_model.specs.Plans.{AreNames}
use Rattle.dr_world.specs.Founding.{Founds, IsFounded}
use Rattle.dr_world.specs.Nodes.{AllStandIn, over_at, seat_of, seats_of}
use Rattle.dr_world.specs.Reports.{AreNamesOf, AreSameNodes, IsSameNode, books_of}
use Rattle.dr_world.specs.Shows.{HasSide, IsSeated, LinkedAt, Seat, ShowsBytes, desk_at}
use Rattle.dr_world.specs.Whole.{AllStand, contents}
use Rattle.dr_world.proofs.AtNodes.{node_named}
use Rattle.dr_world.proofs.Called.{all_stood}
use Rattle.dr_world.proofs.Closes.{over_is}
use Rattle.dr_world.proofs.Founded.{book_is_empty, choose, name_among}
use Rattle.dr_world.proofs.Listed.{are_same, nodes_then}

-- ---- one node under its name

module _ {L : Type 0} {l : Ghosts L} (old new : BTreeMap Text (Node L l)) (name : Text)
    (m : Node L l) (u : tree.Updates text_cmp old new name (Some m)) where
  now_at : (q : Text)
      → tree.get text_cmp new q ≡ cond (same_text q name) (Some m) (tree.get text_cmp old q)
  now_at q =
      u.0 q
      ∙ ap
      (λ (b : Bool). cond b (Some m) (tree.get text_cmp old q))
      ((eq_by_cmp_equiv texts.total).symm name q)

  now_here : (q : Text) → q ≡ name → tree.get text_cmp new q ≡ Some m
  now_here q same =
      ap (tree.get text_cmp new) same ∙ now_at name
      ∙ ap (λ (b : Bool). cond b (Some m) (tree.get text_cmp old name)) (ties_itself texts name)

  now_there : (q : Text) → same_text q name ≡ false
      → tree.get text_cmp new q ≡ tree.get text_cmp old q
  now_there q apart = now_at q ∙ ap (λ (b : Bool). cond b (Some m) (tree.get text_cmp old q)) apart

-- a name is less than another: it isn't the same
less_apart : (x q : Text) → text_cmp x q ≡ Less → same_text q x ≡ false
less_apart x q less = elim (same_or_not texts q x) [
  | inl same ↦ absurd
      (let e : text_cmp x x ≡ Less = ap (text_cmp x) (sym same) ∙ less in
      let t = ties_itself texts x in
      let f : eq_by_cmp text_cmp x x ≡ false = rw e refl in false≢true (sym f ∙ t))
  | inr apart ↦ apart
]

not_some : {X : Type 0} (x : X) (o : Option X) → o ≡ None → o ≡ Some x → ⊥
not_some x o n s = let e : None ≡ Some x = sym n ∙ s in cc

inside : {X : Type 0} (x y : X) (o : Option X) → o ≡ Some x → o ≡ Some y → x ≡ y
inside x y o a b = let e : Some x ≡ Some y = sym a ∙ b in cc

-- ---- nodes that go over, one after the other

module _ {L : Type 0} {l : Ghosts L} (next : Network) (own : Certificate) where
  took_more : (names : List Text) (name : Text) (a b c : BTreeMap Text (Node L l))
      → AllTake next own names a b
      → TakesAt next own name b c
      → AllTake next own (names ++ name ∷ []) a c
  took_more [] name a b c h t =
      (c, subst (λ (z : BTreeMap Text (Node L l)). TakesAt next own name z c) h t, refl)
  took_more (x ∷ xs) name a b c h t = (h.0, h.1, took_more xs name h.0 b c h.2 t)

  pub took_next : (names : List Text) (i : ℕ) (name : Text) (a b c : BTreeMap Text (Node L l))
      → AllTake next own (take i names) a b
      → TakesAt next own name b c
      → take i names ++ name ∷ [] ≡ take (i + 1) names
      → AllTake next own (take (i + 1) names) a c
  took_next names i name a b c h t is =
      let P : List Text → Type 0 = λ ns. AllTake next own ns a c in
      subst P is (took_more (take i names) name a b c h t)

  pub took_all : (names : List Text) (i : ℕ) (a b : BTreeMap Text (Node L l))
      → length names ≤ i
      → AllTake next own (take i names) a b
      → AllTake next own names a b
  took_all names i a b all h =
      let P : List Text → Type 0 = λ ns. AllTake next own ns a b in subst P (take_all i names all) h

  took_stood : (names : List Text) (a b : BTreeMap Text (Node L l))
      → AllTake next own names a b
      → AllStandIn b → AllStandIn a
  took_stood [] a b h all =
      (let P : BTreeMap Text (Node L l) → Type 0 = λ z. AllStandIn z in subst P h all)
  took_stood (x ∷ xs) a b h all =
      let t = h.1 in
      all_stood a h.0 x t.0 t.1 (sym t.2) (t.4.0) t.3.stood (took_stood xs h.0 b h.2 all)

  took_there : (names : List Text) (a b : BTreeMap Text (Node L l)) (q : Text)
      → (Contains names q → ⊥)
      → AllTake next own names a b
      → tree.get text_cmp b q ≡ tree.get text_cmp a q
  took_there [] a b q none h = ap (λ (z : BTreeMap Text (Node L l)). tree.get text_cmp z q) h
  took_there (x ∷ xs) a b q none h =
      let t = h.1 in
      let rest = took_there xs h.0 b q (λ among. none (Contains-there x xs q among)) h.2 in
      elim (same_or_not texts q x) [
        | inl same ↦ absurd
            (none (subst (λ (z : Text). Contains (x ∷ xs) z) (sym same) (Contains-here x xs)))
        | inr apart ↦ rest ∙ now_there a h.0 x t.1 t.4 q apart
      ]

  -- a node that isn't there doesn't come
  took_none : (names : List Text) (a b : BTreeMap Text (Node L l)) (q : Text)
      → tree.get text_cmp a q ≡ None
      → AllTake next own names a b
      → tree.get text_cmp b q ≡ None
  took_none [] a b q none h = ap (λ (z : BTreeMap Text (Node L l)). tree.get text_cmp z q) h ∙ none
  took_none (x ∷ xs) a b q none h =
      let t = h.1 in
      elim (same_or_not texts q x) [
        | inl same ↦ absurd
            (not_some t.0 (tree.get text_cmp a x) (ap (tree.get text_cmp a) (sym same) ∙ none) t.2)
        | inr apart ↦ took_none xs h.0 b q (now_there a h.0 x t.1 t.4 q apart ∙ none) h.2
      ]

  -- each of the names has a node that has gone over
  abbrev IsOver : (a b : BTreeMap Text (Node L l)) (q : Text) → Type 0
  IsOver a b q =
      (n m : Node L l)
      × (tree.get text_cmp a q ≡ Some n)
      × (tree.get text_cmp b q ≡ Some m)
      × HasGoneOver next own n m

  took_here : (names : List Text) (a b : BTreeMap Text (Node L l)) (q : Text)
      → IsStrictlySortedBy text_cmp names
      → Contains names q
      → AllTake next own names a b
      → IsOver a b q
  unfolding IsStrictlySortedBy
  took_here [] a b q sorted among h = absurd (nothing_in_nil q among)
  took_here (x ∷ xs) a b q sorted among h =
      let t = h.1 in
      let after_x : (y : Text) → Contains xs y → same_text y x ≡ false = λ y later. less_apart x y
      (All-contains
      (λ (z : Text). text_cmp x z ≡ Less) xs y
      (All-from_recursion (λ (z : Text). text_cmp x z ≡ Less) xs sorted.0) later) in
      elim (Contains-cons_cases x xs q among) [
        | inl same ↦ let apart : Contains xs x → ⊥ =
            λ later. false≢true (sym (after_x x later) ∙ ties_itself texts x) in
            let here : tree.get text_cmp b x ≡ Some t.1 =
            took_there xs h.0 b x apart h.2 ∙ now_here a h.0 x t.1 t.4 x refl in
            subst (λ (z : Text). IsOver a b z) same (t.0, t.1, t.2, here, t.3)
        | inr later ↦
            let r = took_here xs h.0 b q sorted.1 later h.2 in
            (r.0, r.1, sym (now_there a h.0 x t.1 t.4 q (after_x q later)) ∙ r.2, r.3, r.4)
      ]

  -- ---- nodes that join

  joined_more : (names : List Text) (name : Text) (a b c : BTreeMap Text (Node L l))
      → AllJoin next own names a b
      → Founds next own name b c
      → AllJoin next own (names ++ name ∷ []) a c
  joined_more [] name a b c h t =
      (c, subst (λ (z : BTreeMap Text (Node L l)). Founds next own name z c) h t, refl)
  joined_more (x ∷ xs) name a b c h t = (h.0, h.1, joined_more xs name h.0 b c h.2 t)

  pub joined_next : (names : List Text) (i : ℕ) (name : Text) (a b c : BTreeMap Text (Node L l))
      → AllJoin next own (take i names) a b
      → Founds next own name b c
      → take (i + 1) names ≡ take i names ++ name ∷ []
      → AllJoin next own (take (i + 1) names) a c
  joined_next names i name a b c h t is =
      let P : List Text → Type 0 = λ ns. AllJoin next own ns a c in
      subst P (sym is) (joined_more (take i names) name a b c h t)

  pub joined_all : (names : List Text) (i : ℕ) (a b : BTreeMap Text (Node L l))
      → length names ≤ i
      → AllJoin next own (take i names) a b
      → AllJoin next own names a b
  joined_all names i a b all h =
      let P : List Text → Type 0 = λ ns. AllJoin next own ns a b in subst P (take_all i names all) h

  joined_there : (names : List Text) (a b : BTreeMap Text (Node L l)) (q : Text)
      → (Contains names q → ⊥)
      → AllJoin next own names a b
      → tree.get text_cmp b q ≡ tree.get text_cmp a q
  joined_there [] a b q none h = ap (λ (z : BTreeMap Text (Node L l)). tree.get text_cmp z q) h
  joined_there (x ∷ xs) a b q none h =
      let f = h.1 in
      let rest = joined_there xs h.0 b q (λ among. none (Contains-there x xs q among)) h.2 in
      elim (same_or_not texts q x) [
        | inl same ↦ absurd
            (none (subst (λ (z : Text). Contains (x ∷ xs) z) (sym same) (Contains-here x xs)))
        | inr apart ↦ rest ∙ now_there a h.0 x f.0 f.2 q apart
      ]

  abbrev HasFounded : (b : BTreeMap Text (Node L l)) (q : Text) → Type 0
  HasFounded b q = (n : Node L l) × (tree.get text_cmp b q ≡ Some n) × IsFounded next own q n

  joined_still : (names : List Text) (a b : BTreeMap Text (Node L l)) (q : Text)
      → HasFounded a q
      → AllJoin next own names a b
      → HasFounded b q
  joined_still [] a b q f h =
      (let P : BTreeMap Text (Node L l) → Type 0 = λ z. HasFounded z q in subst P (sym h) f)
  joined_still (x ∷ xs) a b q f h =
      let t = h.1 in
      elim (same_or_not texts q x) [
        | inl same ↦ joined_still xs h.0 b q (
          t.0,
          now_here a h.0 x t.0 t.2 q same,
          subst (λ (z : Text). IsFounded next own z t.0) (sym same) t.1,
        ) h.2
        | inr apart ↦
            joined_still xs h.0 b q (f.0, now_there a h.0 x t.0 t.2 q apart ∙ f.1, f.2) h.2
      ]

  joined_here : (names : List Text) (a b : BTreeMap Text (Node L l)) (q : Text)
      → Contains names q
      → AllJoin next own names a b
      → HasFounded b q
  joined_here [] a b q among h = absurd (nothing_in_nil q among)
  joined_here (x ∷ xs) a b q among h =
      let t = h.1 in
      elim (Contains-cons_cases x xs q among) [
        | inl same ↦ joined_still xs h.0 b q (
          t.0,
          now_here a h.0 x t.0 t.2 q (sym same),
          subst (λ (z : Text). IsFounded next own z t.0) same t.1,
        ) h.2
        | inr later ↦ joined_here xs h.0 b q later h.2
      ]

-- ---- links

module _ {L : Type 0} {l : Ghosts L} (old : World L l) (b : ByteWorld)
    (shown : ShowsBytes (contents old) b) where
  on_among : (number : ℕ)
      → is_on_at old.nodes old.wires number ≡ true
      → some_is_on old.nodes old.wires ≡ true
  on_among number on =
      let o = tree.get nat_cmp old.wires number in
      let there : Rattle.std.specs.Prelude.IsSome o = some_wires o on in
      let exact : (x y : ℕ) → eq_by_cmp nat_cmp x y ≡ true → x ≡ y = tells_apart numbers.exact in
      let among =
      Contains-keys_from_lookup {eq = eq_by_cmp nat_cmp} exact number old.wires.entries there in
      let here = is_on_at old.nodes old.wires in
      list_any_at here (tree.keys old.wires) among.0 number among.1 (ap here among.2 ∙ on)
    where
      some_wires : (o : Option Wires)
          → is_on old.nodes number o ≡ true
          → Rattle.std.specs.Prelude.IsSome o
      some_wires None h = absurd (false≢true h)
      some_wires (Some w) h = refl

  none_on : some_is_on old.nodes old.wires ≡ false
      → (number : ℕ)
      → is_on_at old.nodes old.wires number ≡ false
  none_on none number = elim (cases_of (is_on_at old.nodes old.wires number)) [
    | inl on ↦ absurd (false≢true (sym none ∙ on_among number on))
    | inr off ↦ off
  ]

  both : (x y : Bool) → not (x && y) ≡ false → (x ≡ true) × (y ≡ true)
  both true true h = (refl, refl)
  both true false h = absurd (false≢true (sym h))
  both false y h = absurd (false≢true (sym h))

  ends : (number : ℕ) (o : Option Wires) (k : Channel)
      → LinkedAt (contents old).seats number o (Some k)
      → is_on old.nodes number o ≡ false
      → (is_over k.caller.core ≡ true) × (is_over k.receiver.core ≡ true)
  ends number None k linked off = absurd linked
  ends number (Some w) k linked off =
      let over = both (over_at number (tree.get text_cmp old.nodes w.caller))
      (over_at number (tree.get text_cmp old.nodes w.receiver)) off in (
        sym
            (over_is number false k.caller (tree.get text_cmp old.nodes w.caller) linked.at_caller.0
            linked.at_caller.1 linked.at_caller.2) ∙ over.0,
        sym
            (over_is number true k.receiver (tree.get text_cmp old.nodes w.receiver)
            linked.at_receiver.0 linked.at_receiver.1 linked.at_receiver.2) ∙ over.1,
      )

  pub all_over : some_is_on old.nodes old.wires ≡ false → AllAreOver b
  all_over none number k has =
      let P : Option Channel → Type 0 =
      λ c. LinkedAt (contents old).seats number (tree.get nat_cmp old.wires number) c in
      ends number (tree.get nat_cmp old.wires number) k (subst P has (shown.links number))
      (none_on none number)

-- ---- the whole world

node_of_seat :
    {L : Type 0} {l : Ghosts L} (nodes : BTreeMap Text (Node L l)) (q : Text) (seat : Seat)
    → seats_of nodes q ≡ Some seat
    → (n : Node L l) × (tree.get text_cmp nodes q ≡ Some n) × (seat_of n ≡ seat)
node_of_seat {L} {l} nodes q seat e = by (tree.get text_cmp nodes q) refl e
  where
    by : (o : Option (Node L l))
        → tree.get text_cmp nodes q ≡ o
        → option_map seat_of o ≡ Some seat
        → (n : Node L l) × (tree.get text_cmp nodes q ≡ Some n) × (seat_of n ≡ seat)
    by None h d = absurd (let x : None ≡ Some seat = d in cc)
    by (Some n) h d = (n, h, let x : Some (seat_of n) ≡ Some seat = d in cc)

no_node : {L : Type 0} {l : Ghosts L} (nodes : BTreeMap Text (Node L l)) (q : Text)
    → seats_of nodes q ≡ None
    → tree.get text_cmp nodes q ≡ None
no_node {L} {l} nodes q e = by (tree.get text_cmp nodes q) refl e
  where
    by : (o : Option (Node L l))
        → tree.get text_cmp nodes q ≡ o
        → option_map seat_of o ≡ None
        → tree.get text_cmp nodes q ≡ None
    by None h d = h
    by (Some n) h d = absurd (let x : Some (seat_of n) ≡ None = d in cc)

module _ {L : Type 0} {l : Ghosts L} (plan next : Network) (certificate own : Certificate)
    (old new : World L l) (looked mid : BTreeMap Text (Node L l)) (names joins : List Text)
    (are : AreNamesOf (books_of old.nodes) names) (joining : AreJoining next looked joins)
    (looks : AreSameNodes old.nodes looked) (took : AllTake next own names looked mid)
    (join : AllJoin next own joins mid new.nodes) where
  abbrev Seen : Text → Type 0
  Seen q = (seat : Seat) × (seats_of old.nodes q ≡ Some seat)

  not_joining : (q : Text) (n : Node L l)
      → tree.get text_cmp looked q ≡ Some n
      → Contains joins q → ⊥
  not_joining q n has among = not_some n (tree.get text_cmp looked q) ((joining q).0 among).1 has

  all_mid : AllStand new → AllStandIn mid
  all_mid all q m has = all q m (joined_there next own joins mid new.nodes q none join ∙ has)
    where
      none : Contains joins q → ⊥
      none among = not_some m (tree.get text_cmp mid q)
          (took_none next own names looked mid q ((joining q).0 among).1 took) has

  all_looked : AllStand new → AllStandIn looked
  all_looked all = took_stood next own names looked mid took (all_mid all)

  pub stood : AllStand new → AllStand old
  stood all = looks.0 (all_looked all)

  module _ (all : AllStand new) where
    same_seat : (q : Text) → seats_of looked q ≡ seats_of old.nodes q
    same_seat q = looks.1 (all_looked all) q

    -- a node that was there has gone over
    gone : (q : Text) (seat : Seat)
        → seats_of old.nodes q ≡ Some seat
        → (n m : Node L l) × (seat_of n ≡ seat)
        × (tree.get text_cmp new.nodes q ≡ Some m)
        × HasGoneOver next own n m
    gone q seat e =
        let was = node_of_seat old.nodes q seat e in
        let at = node_of_seat looked q seat (same_seat q ∙ e) in
        let among = (are.1 q).1 (
          l.book was.0.desk.ledger,
          ap (option_map (λ (z : Node L l). l.book z.desk.ledger)) was.1,
        ) in
        let t = took_here next own names looked mid q are.0 among took in
        let one : t.0 ≡ at.0 = inside t.0 at.0 (tree.get text_cmp looked q) t.2 at.1 in (
          t.0,
          t.1,
          ap seat_of one ∙ at.2,
          joined_there next own joins mid new.nodes q (not_joining q t.0 t.2) join ∙ t.3,
          t.4,
        )

    -- a name that had no node: one of the next plan's is founded, and another has none still
    none_looked : (q : Text) → seats_of old.nodes q ≡ None → tree.get text_cmp looked q ≡ None
    none_looked q e = no_node looked q (same_seat q ∙ e)

    joined : (q : Text)
        → seats_of old.nodes q ≡ None
        → HasNode next q
        → (n : Node L l) × (tree.get text_cmp new.nodes q ≡ Some n) × IsFounded next own q n
    joined q e is =
        joined_here next own joins mid new.nodes q ((joining q).1 (is, none_looked q e)) join

    absent : (q : Text)
        → seats_of old.nodes q ≡ None
        → (HasNode next q → ⊥)
        → tree.get text_cmp new.nodes q ≡ None
    absent q e none =
        joined_there next own joins mid new.nodes q (λ among. none ((joining q).0 among).0) join
        ∙ took_none next own names looked mid q (none_looked q e) took

    -- what is shown of a name in the new world, by whether it had a node
    module _ (seated : IsSeated plan certificate (contents old).seats) where
      named_before : (q : Text) (seat : Seat) → seats_of old.nodes q ≡ Some seat → HasNode plan q
      named_before q seat e = node_named plan certificate (contents old) seated q seat e

      seat_before : (q : Text) → (Seen q) ⊎ (seats_of old.nodes q ≡ None)
      seat_before q = by (seats_of old.nodes q) refl
        where
          by : (o : Option Seat) → seats_of old.nodes q ≡ o
              → (Seen q) ⊎ (seats_of old.nodes q ≡ None)
          by None h = inr h
          by (Some seat) h = inl (seat, h)

      next_or_not : (q : Text) → HasNode next q ⊎ (HasNode next q → ⊥)
      next_or_not q = node_or_not next q

      new_seat : (q : Text) (m : Node L l)
          → tree.get text_cmp new.nodes q ≡ Some m
          → seats_of new.nodes q ≡ Some (seat_of m)
      new_seat q m e = ap (option_map seat_of) e

      is_part : (q : Text) (seat : Seat)
          → seats_of new.nodes q ≡ Some seat
          → (seat.site.name ≡ q) × IsPartOf next own seat.site
      is_part q seat e = elim (seat_before q) [
        | inl was ↦ let g = gone q was.0 was.1 in
            let one : seat_of g.1 ≡ seat =
            inside (seat_of g.1) seat (seats_of new.nodes q) (new_seat q g.1 g.3) e in
            let was_named = (seated.each q was.0 was.1).0 in
            let named : (l.site g.1.desk.ledger).name ≡ q =
            g.4.named ∙ (ap (λ (s : Seat). s.site.name) g.2 ∙ was_named) in
            subst (λ (s : Seat). (s.site.name ≡ q) × IsPartOf next own s.site) one (named, g.4.part)
        | inr none ↦ elim (next_or_not q) [
          | inl is ↦ let f = joined q none is in
              let one : seat_of f.0 ≡ seat =
              inside (seat_of f.0) seat (seats_of new.nodes q) (new_seat q f.0 f.1) e in
              subst
              (λ (s : Seat). (s.site.name ≡ q) × IsPartOf next own s.site) one (f.2.named, f.2.part)
          | inr not_one ↦ absurd
              (not_some seat (seats_of new.nodes q)
              (ap (option_map seat_of) (absent q none not_one)) e)
        ]
      ]

      is_there : (q : Text) → HasNode next q → (seat : Seat) × (seats_of new.nodes q ≡ Some seat)
      is_there q is = elim (seat_before q) [
        | inl was ↦ (let g = gone q was.0 was.1 in (seat_of g.1, new_seat q g.1 g.3))
        | inr none ↦ (let f = joined q none is in (seat_of f.0, new_seat q f.0 f.1))
      ]

      pub seated_next : IsSeated next own (contents new).seats
      seated_next = record { each = is_part; all = is_there }

      -- no node has a side of a link any more
      no_side : (q : Text) (number : ℕ) (side : LinkSide)
          → HasSide (contents new).seats q number side
          → ⊥
      no_side q number side h =
          let bare : h.0.sides ≡ map.empty = elim (seat_before q) [
            | inl was ↦
                (let g = gone q was.0 was.1 in
                ap
                (λ (s : Seat). s.sides)
                (inside h.0 (seat_of g.1) (seats_of new.nodes q) h.1 (new_seat q g.1 g.3))
                ∙ g.4.links)
            | inr none ↦ elim (next_or_not q) [
              | inl is ↦
                  (let f = joined q none is in
                  ap
                  (λ (s : Seat). s.sides)
                  (inside h.0 (seat_of f.0) (seats_of new.nodes q) h.1 (new_seat q f.0 f.1))
                  ∙ f.2.links)
              | inr not_one ↦ absurd
                  (not_some h.0 (seats_of new.nodes q)
                  (ap (option_map seat_of) (absent q none not_one)) h.1)
            ]
          ] in
          not_some side (map.get h.0.sides number)
          (ap (λ (s : Sides). map.get s number) bare ∙ map.get-empty nat_cmp number) h.2

      module _ (b : ByteWorld) (shown : ShowsBytes (contents old) b) (over : AllAreOver b)
          (stay : AreNodes next names) (none_left : new.wires.entries ≡ [])
          (time : new.time ≡ old.time) (opened : new.opened ≡ old.opened)
          (bare : (q : Text) → Contains joins q → (n : Node L l)
          → tree.get text_cmp new.nodes q ≡ Some n
          → l.book n.desk.ledger ≡ empty_book) where
        abbrev after_it : ByteWorld
        after_it = record {
          time = b.time;
          desks = λ q. desk_at (seats_of new.nodes q);
          links = map.empty;
          opened = b.opened;
        }

        desk_was : (q : Text) (seat : Seat)
            → seats_of old.nodes q ≡ Some seat
            → b.desks q ≡ seat.desk
        desk_was q seat e = shown.desks q ∙ ap desk_at e

        seen : (q : Text) → HasNode plan q → Seen q
        seen q is = seated.all q is

        armed_was : (q : Text) → HasNode plan q → (b.desks q).armed ≡ false
        armed_was q is =
            let was = seen q is in
            let g = gone q was.0 was.1 in
            ap
            (λ (d : Desk). d.armed) (desk_was q was.0 was.1 ∙ ap (λ (s : Seat). s.desk) (sym g.2))
            ∙ g.4.was_unarmed (all q g.1 g.3)

        fits : (q : Text) → HasNode plan q → IsFit next q (b.desks q).book
        fits q is =
            let was = seen q is in
            let g = gone q was.0 was.1 in
            let book : l.book g.0.desk.ledger ≡ (b.desks q).book =
            ap (λ (s : Seat). s.desk.book) g.2
            ∙ ap (λ (d : Desk). d.book) (sym (desk_was q was.0 was.1)) in
            let named : (l.site g.0.desk.ledger).name ≡ q =
            ap (λ (s : Seat). s.site.name) g.2 ∙ (seated.each q was.0 was.1).0 in
            subst
            (λ (p : Text × Book). IsFit next p.0 p.1)
            (λ j. (named j, book j)) (g.4.fit (all q g.1 g.3))

        stays : (q : Text) → HasNode plan q → HasNode next q
        stays q is =
            let was = seen q is in
            let at = node_of_seat old.nodes q was.0 was.1 in
            stay q
            ((are.1 q).1 (
              l.book at.0.desk.ledger,
              ap (option_map (λ (z : Node L l). l.book z.desk.ledger)) at.1,
            ))

        unseen : (q : Text) → (HasNode plan q → ⊥) → seats_of old.nodes q ≡ None
        unseen q none = elim (seat_before q) [
          | inl was ↦ absurd (none (named_before q was.0 was.1))
          | inr e ↦ e
        ]

        desk_now : (q : Text) → HasNode plan q
            → desk_at (seats_of new.nodes q) ≡ desk (after Adoption (b.desks q).book) false
        desk_now q is =
            let was = seen q is in
            let g = gone q was.0 was.1 in
            let stands = all q g.1 g.3 in
            let book : l.book g.1.desk.ledger ≡ after Adoption (b.desks q).book =
            g.4.book stands
            ∙ ap
            (λ (k : Book). after Adoption k)
            (ap (λ (s : Seat). s.desk.book) g.2
            ∙ ap (λ (d : Desk). d.book) (sym (desk_was q was.0 was.1))) in
            ap desk_at (new_seat q g.1 g.3) ∙ (λ j. desk (book j) (g.4.unarmed stands j))

        desk_new : (q : Text) → (HasNode plan q → ⊥)
            → desk_at (seats_of new.nodes q) ≡ desk empty_book false
        desk_new q none =
            let e = unseen q none in
            elim (next_or_not q) [
              | inl is ↦
                  let f = joined q e is in
                  let book = bare q ((joining q).1 (is, none_looked q e)) f.0 f.1 in
                  ap desk_at (new_seat q f.0 f.1) ∙ (λ j. desk (book j) (f.2.armed j))
              | inr not_one ↦ ap
                  (λ (o : Option (Node L l)). desk_at (option_map seat_of o)) (absent q e not_one)
            ]

        pub taken : TakesPlan plan b next after_it
        taken = record {
          may = record {
            over = over;
            unarmed = armed_was;
            stay = stays;
            fit = fits;
            strangers = λ q none. shown.desks q ∙ ap desk_at (unseen q none);
          };
          time = refl;
          opened = refl;
          links = refl;
          desks = desk_now;
          joined = desk_new;
        }

        no_wires : (number : ℕ) → tree.get nat_cmp new.wires number ≡ None
        no_wires number = rw none_left refl

        pub beside : ShowsBytes (contents new) after_it
        beside = record {
          time = shown.time ∙ ap (λ t. t.passed) (sym time);
          opened = shown.opened ∙ sym opened;
          desks = λ q. refl;
          links = λ number. subst
              (λ (o : Option Wires).
              LinkedAt (contents new).seats number o (map.get (map.empty {R = nat_cmp}) number))
              (sym (no_wires number))
              (subst
              (λ (k : Option Channel). LinkedAt (contents new).seats number None k)
              (sym (map.get-empty nat_cmp number)) tt);
          sides = λ q number side h. absurd (no_side q number side h);
          fresh = λ q number side h less. no_side q number side h;
        }

        pub comes : ComesTo plan next own b Adopted old new
        comes = (seated_next, (after_it, taken, beside))

      -- the nodes that join have nothing yet
      pub all_bare :
          ∥ ((q : Text) → Contains joins q → (n : Node L l)
          → tree.get text_cmp new.nodes q ≡ Some n
          → l.book n.desk.ledger ≡ empty_book) ∥₁
      all_bare = choose
          (λ q. (n : Node L l)
          → tree.get text_cmp new.nodes q ≡ Some n
          → l.book n.desk.ledger ≡ empty_book) joins
          (λ q among. let f = joined_here next own joins mid new.nodes q among join in
          let stands = all q f.0 f.1 in
          ∥∥₁_map (book_is_empty l f.0.desk.ledger stands (f.2.empty stands)) (λ bare n has. subst
          (λ (m : Node L l). l.book m.desk.ledger ≡ empty_book)
          (inside f.0 n (tree.get text_cmp new.nodes q) f.1 has) bare))

-- ---- what keeps a world from a change

module _ {L : Type 0} {l : Ghosts L} (plan next : Network) (certificate own : Certificate)
    (old : World L l) (names : List Text) (are : AreNamesOf (books_of old.nodes) names)
    (b : ByteWorld) (seated : IsSeated plan certificate (contents old).seats)
    (shown : ShowsBytes (contents old) b) where
  node_among : (q : Text) → Contains names q
      → (n : Node L l) × (tree.get text_cmp old.nodes q ≡ Some n)
  node_among q among = by (tree.get text_cmp old.nodes q) refl ((are.1 q).0 among).1
    where
      by : (o : Option (Node L l))
          → tree.get text_cmp old.nodes q ≡ o
          → option_map (λ (z : Node L l). l.book z.desk.ledger) o ≡ Some ((are.1 q).0 among).0
          → (n : Node L l) × (tree.get text_cmp old.nodes q ≡ Some n)
      by None h d = absurd (let x : None ≡ Some ((are.1 q).0 among).0 = d in cc)
      by (Some n) h d = (n, h)

  plan_has : (q : Text) → Contains names q → HasNode plan q
  plan_has q among =
      let at = node_among q among in
      node_named plan certificate (contents old) seated q (seat_of at.0)
      (ap (option_map seat_of) at.1)

  find_stranger : (some : List Text)
      → AreNodes next some ⊎ ((q : Text) × Contains some q × (HasNode next q → ⊥))
  find_stranger [] = inl (λ q among. absurd (nothing_in_nil q among))
  find_stranger (x ∷ xs) = elim (node_or_not next x) [
    | inr none ↦ inr (x, Contains-here x xs, none)
    | inl is ↦ elim (find_stranger xs) [
      | inr later ↦ inr (later.0, Contains-there x xs later.0 later.1, later.2)
      | inl rest ↦ inl (λ q among. elim (Contains-cons_cases x xs q among) [
        | inl same ↦ subst (λ (z : Text). HasNode next z) same is
        | inr later ↦ rest q later
      ])
    ]
  ]

  pub a_stranger : (AreNodes next names → ⊥) → (q : Text) × HasNode plan q × (HasNode next q → ⊥)
  a_stranger not_all = elim (find_stranger names) [
    | inl each ↦ absurd (not_all each)
    | inr found ↦ (found.0, plan_has found.0 found.1, found.2)
  ]

  on_there : (number : ℕ) (o : Option Wires) (c : Option Channel)
      → LinkedAt (contents old).seats number o c
      → map.get b.links number ≡ c
      → is_on old.nodes number o ≡ true
      → AllAreOver b → ⊥
  on_there number None c linked has on over = false≢true on
  on_there number (Some w) None linked has on over = linked
  on_there number (Some w) (Some k) linked has on over =
      let o = over number k has in
      let caller =
      over_is number false k.caller (tree.get text_cmp old.nodes w.caller) linked.at_caller.0
      linked.at_caller.1 linked.at_caller.2 ∙ o.0 in
      let receiver =
      over_is number true k.receiver (tree.get text_cmp old.nodes w.receiver) linked.at_receiver.0
      linked.at_receiver.1 linked.at_receiver.2 ∙ o.1 in
      let neither : is_on old.nodes number (Some w) ≡ false = ap not
      (ap (λ (x : Bool). x && over_at number (tree.get text_cmp old.nodes w.receiver)) caller
      ∙ receiver) in
      false≢true (sym neither ∙ on)

  pub an_end_is_on : some_is_on old.nodes old.wires ≡ true → AllAreOver b → ⊥
  an_end_is_on some =
      let at = Any-from_list_any (is_on_at old.nodes old.wires) (tree.keys old.wires) some in
      on_there at.1 (tree.get nat_cmp old.wires at.1) (map.get b.links at.1) (shown.links at.1) refl
      at.4

-- ---- a row that doesn't fit

both_less : (a b : Text) → text_cmp a b ≡ Less → text_cmp b a ≡ Less → ⊥
both_less a b f g =
    let e : Less ≡ ordering_reverse Less =
    sym f ∙ (texts.total.antisymm a b ∙ ap ordering_reverse g) in
    cc

before_it : (before : List Text) (node : Text) (after : List Text) (q : Text)
    → IsStrictlySortedBy text_cmp (before ++ node ∷ after)
    → Contains (before ++ node ∷ after) q
    → text_cmp q node ≡ Less → Contains before q
unfolding IsStrictlySortedBy
before_it [] node later q sorted among less = elim (Contains-cons_cases node later q among) [
  | inl same ↦ absurd
      (false≢true
      (sym (less_apart q node less)
      ∙ (ap (λ (z : Text). same_text z q) same ∙ ties_itself texts q)))
  | inr behind ↦ let greater : text_cmp node q ≡ Less = All-contains
      (λ (z : Text). text_cmp node z ≡ Less) later q
      (All-from_recursion (λ (z : Text). text_cmp node z ≡ Less) later sorted.0) behind in
      absurd (both_less node q greater less)
]
before_it (x ∷ xs) node later q sorted among less =
    elim (Contains-cons_cases x (xs ++ node ∷ later) q among) [
      | inl same ↦ subst (λ (z : Text). Contains (x ∷ xs) z) same (Contains-here x xs)
      | inr behind ↦ Contains-there x xs q (before_it xs node later q sorted.1 behind less)
    ]

module _ {L : Type 0} {l : Ghosts L} (plan next : Network) (certificate : Certificate)
    (old : World L l) (names : List Text) (are : AreNamesOf (books_of old.nodes) names)
    (b : ByteWorld) (seated : IsSeated plan certificate (contents old).seats)
    (shown : ShowsBytes (contents old) b) (node uid dest : Text) (before after : List Text)
    (is : names ≡ before ++ node ∷ after) (fit : AreFit next (seats_of old.nodes) before)
    (seat : Seat) (has : seats_of old.nodes node ≡ Some seat)
    (unfit : Unfits next seat.site.name seat.desk.book (Some (uid, dest))) where
  desk_there : (q : Text) (s : Seat) → seats_of old.nodes q ≡ Some s → b.desks q ≡ s.desk
  desk_there q s e = shown.desks q ∙ ap desk_at e

  among_names : (q : Text) → HasNode plan q → Contains names q
  among_names q is_node =
      let s = seated.all q is_node in
      let at = node_of_seat old.nodes q s.0 s.1 in
      (are.1 q).1
      (l.book at.0.desk.ledger, ap (option_map (λ (z : Node L l). l.book z.desk.ledger)) at.1)

  pub all_stay : AreNodes next names → AllStay plan next
  all_stay stay q is_node = stay q (among_names q is_node)

  pub first_unfit : IsFirstUnfit plan next b.desks node (uid, dest)
  first_unfit = record {
    of = node_named plan certificate (contents old) seated node seat has;
    unfit =
        let named = (seated.each node seat has).0 in
        let book = ap (λ (d : Desk). d.book) (sym (desk_there node seat has)) in
        subst
        (λ (p : Text × Book). Unfits next p.0 p.1 (Some (uid, dest)))
        (λ j. (named j, book j)) unfit;
    first = λ q is_node less. let f = fit q
        (before_it before node after q
        (subst (λ (ns : List Text). IsStrictlySortedBy text_cmp ns) is are.0)
        (subst (λ (ns : List Text). Contains ns q) is (among_names q is_node)) less) in
        let named = (seated.each q f.0 f.1).0 in
        let book = ap (λ (d : Desk). d.book) (sym (desk_there q f.0 f.1)) in
        subst (λ (p : Text × Book). IsFit next p.0 p.1) (λ j. (named j, book j)) f.2;
  }

-- ---- loops

-- the names before one, and then it
pub so_far : (names : List Text) (i : ℕ) (name : Text)
    → i < length names
    → name ≡ get_or names i name
    → take (i + 1) names ≡ take i names ++ name ∷ []
so_far names i name less is =
    take_more names i name less ∙ ap (λ (x : Text). take i names ++ x ∷ []) (sym is)

pub nodes_none : (plan : Network) (names : List Text) → AreNodes plan (take 0 names)
nodes_none plan names q among = absurd (nothing_in_nil q among)

pub nodes_more : (plan : Network) (names : List Text) (i : ℕ) (name : Text)
    → i < length names
    → name ≡ get_or names i name
    → AreNodes plan (take i names)
    → HasNode plan name
    → AreNodes plan (take (i + 1) names)
nodes_more plan names i name less is before here q among = elim
    (Contains-push_cases (take i names) name q
    (subst (λ (ns : List Text). Contains ns q) (so_far names i name less is) among)) [
      | inl earlier ↦ before q earlier
      | inr last ↦ subst (λ (z : Text). HasNode plan z) last here
    ]

pub nodes_all : (plan : Network) (names : List Text) (i : ℕ)
    → length names ≤ i
    → AreNodes plan (take i names)
    → AreNodes plan names
nodes_all plan names i all h =
    let P : List Text → Type 0 = λ ns. AreNodes plan ns in subst P (take_all i names all) h

module _ {L : Type 0} {l : Ghosts L} where
  -- a node's answer to a look at its rows
  module _ (next : Network) (old new : BTreeMap Text (Node L l)) (name : Text) (n after : Node L l)
      (has : Some n ≡ tree.get text_cmp old name)
      (updates : (q : Text)
      → tree.get text_cmp new q
      ≡ cond (is_at (text_cmp name) q) (Some after) (tree.get text_cmp old q)) where
    now_is : tree.get text_cmp new name ≡ Some after
    now_is =
        updates name
        ∙ ap
        (λ (b : Bool). cond b (Some after) (tree.get text_cmp old name)) (ties_itself texts name)

    pub looked_at : (found : Option Pair) → IsSameNode n after
        → (l.stands after.desk.ledger
        → Unfits next (l.site n.desk.ledger).name (l.book n.desk.ledger) found)
        → LooksAt next name old found new
    looked_at found same h = (
      are_same old new name n after has updates same,
      λ all. (seat_of n, sym (ap (option_map seat_of) has), h (all name after now_is)),
    )

  -- what fits a node as it was read fits it after the reading
  pub fits_still : (next : Network) (n m : Node L l) → IsSameNode n m
      → (l.stands m.desk.ledger → IsFit next (l.site n.desk.ledger).name (l.book n.desk.ledger))
      → l.stands m.desk.ledger
      → IsFit next (l.site m.desk.ledger).name (l.book m.desk.ledger)
  fits_still next n m same fit s =
      let of = sym same.of in
      let book = sym (same.book s) in
      subst (λ (p : Text × Book). IsFit next p.0 p.1) (λ j. ((of j).name, book j)) (fit s)

  pub takes_if : (next : Network) (own : Certificate) (old new : BTreeMap Text (Node L l))
      (name : Text) (n after : Node L l) (r : Result (Unit {0}) WorldFault)
      → tree.get text_cmp old name ≡ Some n
      → tree.Updates text_cmp old new name (Some after)
      → OnOk r (HasGoneOver next own n after)
      → OnOk r (TakesAt next own name old new)
  takes_if next own old new name n after (Ok done) has updates h = (n, after, has, h, updates)
  takes_if next own old new name n after (Err why) has updates h = tt

  -- ---- rows, node by node

  pub fit_none : (next : Network) (nodes : BTreeMap Text (Node L l)) (names : List Text)
      → AreFit next (seats_of nodes) (take 0 names)
  fit_none next nodes names q among = absurd (nothing_in_nil q among)

  module _ (next : Network) (first old new : BTreeMap Text (Node L l)) (names : List Text) (i : ℕ)
      (name : Text) (less : i < length names) (is : name ≡ get_or names i name)
      (so : AreSameNodes first old × (AllStandIn old → AreFit next (seats_of first) (take i names)))
    where
      pub fit_more : LooksAt next name old None new
          → AreSameNodes first new
          × (AllStandIn new → AreFit next (seats_of first) (take (i + 1) names))
      fit_more look = (
        nodes_then first old new so.0 look.0,
        λ all q among. let stood = look.0.0 all in
            elim
            (Contains-push_cases (take i names) name q
            (subst (λ (ns : List Text). Contains ns q) (so_far names i name less is) among)) [
              | inl earlier ↦ so.1 stood q earlier
              | inr last ↦ let at = look.1 all in
                  subst
                  (λ (z : Text). (seat : Seat)
                  × (seats_of first z ≡ Some seat)
                  × IsFit next seat.site.name seat.desk.book) last
                  (at.0, sym (so.0.1 stood name) ∙ at.1, at.2)
            ],
      )

      pub found_unfit : (uid dest : Text) (node : Text)
          → node ≡ name
          → LooksAt next name old (Some (uid, dest)) new
          → Finds next names first (Unfit node uid dest) new
      found_unfit uid dest node same look = (
        nodes_then first old new so.0 look.0,
        λ all. let stood = look.0.0 all in
            let at = look.1 all in
            let parts : names ≡ take i names ++ name ∷ drop (i + 1) names =
            sym (take-append-drop (i + 1) names)
            ∙ (ap (λ (x : List Text). x ++ drop (i + 1) names) (so_far names i name less is)
            ∙ append_assoc (take i names) (name ∷ []) (drop (i + 1) names)) in
            let P : Text → Type 0 = λ z. (before later : List Text)
            × (names ≡ before ++ z ∷ later)
            × AreFit next (seats_of first) before
            × ((seat : Seat)
            × (seats_of first z ≡ Some seat)
            × Unfits next seat.site.name seat.desk.book (Some (uid, dest))) in
            subst P (sym same) (
              take i names,
              drop (i + 1) names,
              parts,
              so.1 stood,
              (at.0, sym (so.0.1 stood name) ∙ at.1, at.2),
            ),
      )

  pub fit_all : (next : Network) (first now : BTreeMap Text (Node L l)) (names : List Text) (i : ℕ)
      → length names ≤ i
      → AreSameNodes first now × (AllStandIn now → AreFit next (seats_of first) (take i names))
      → Finds next names first Adopted now
  fit_all next first now names i all so = (
    so.0,
    λ stands. let P : List Text → Type 0 = λ ns. AreFit next (seats_of first) ns in
        subst P (take_all i names all) (so.1 stands),
  )

-- ---- one node

module _ {L : Type 0} {l : Ghosts L} where
  -- a node's ledger has the name of its site
  pub named_own : (n : Node L l) (name : Text)
      → name ≡ n.site.name
      → name ≡ (l.site n.desk.ledger).name
  named_own n name is = elim (same_or_not texts name (l.site n.desk.ledger).name) [
    | inl same ↦ same
    | inr apart ↦ absurd
        (∥∥₁_elim n.of
        (λ x y. absurd x)
        (λ e. let one : name ≡ (l.site n.desk.ledger).name =
        is ∙ sym (ap (λ (s : Part). s.name) e) in
        false≢true
        (sym apart
        ∙ (ap (λ (z : Text). same_text z (l.site n.desk.ledger).name) one
        ∙ ties_itself texts (l.site n.desk.ledger).name))))
  ]

  pub gone_over : (next : Network) (own : Certificate) (old tested new : Node L l) (site : Part)
      → IsSameNode old tested
      → (l.stands tested.desk.ledger
      → IsFit next (l.site tested.desk.ledger).name (l.book tested.desk.ledger))
      → site.name ≡ (l.site tested.desk.ledger).name
      → IsPartOf next own site
      → (l.stands new.desk.ledger
      → l.book new.desk.ledger ≡ after Adoption (l.book tested.desk.ledger))
      → (l.stands new.desk.ledger
      → (l.armed tested.desk.ledger ≡ false) × (l.armed new.desk.ledger ≡ false))
      → (l.stands new.desk.ledger → l.stands tested.desk.ledger)
      → l.site new.desk.ledger ≡ site
      → new.links ≡ map.empty
      → HasGoneOver next own old new
  gone_over next own old tested new site same fit named part reply armed stood of links = record {
    named = ap (λ (s : Part). s.name) of ∙ (named ∙ ap (λ (s : Part). s.name) same.of);
    part = subst (λ (s : Part). IsPartOf next own s) (sym of) part;
    links = links;
    stood = λ s. same.stood (stood s);
    fit = λ s. let book = same.book (stood s) in
        subst
        (λ (p : Text × Book). IsFit next p.0 p.1)
        (λ j. ((same.of j).name, book j)) (fit (stood s));
    book = λ s. reply s ∙ ap (λ (k : Book). after Adoption k) (same.book (stood s));
    was_unarmed = λ s. sym same.armed ∙ (armed s).0;
    unarmed = λ s. (armed s).1;
  }

-- ---- names that join

named_node : (nodes : List PlannedNode) (q : Text)
    → Contains (mapped (λ (n : PlannedNode). n.name) nodes) q
    → (n : PlannedNode) × Contains nodes n × (n.name ≡ q)
named_node [] q among = absurd (nothing_in_nil q among)
named_node (x ∷ xs) q among =
    elim (Contains-cons_cases x.name (mapped (λ (n : PlannedNode). n.name) xs) q among) [
      | inl same ↦ (x, Contains-here x xs, same)
      | inr later ↦ (let r = named_node xs q later in (r.0, Contains-there x xs r.0 r.1, r.2))
    ]

module _ {L : Type 0} {l : Ghosts L} (nodes : BTreeMap Text (Node L l)) (every : List Text) where
  abbrev Joins : List Text → ℕ → Type 0
  Joins names i =
      (q : Text)
      → Contains names q ↔ (Contains (take i every) q × (tree.get text_cmp nodes q ≡ None))

  pub joins_none : Joins [] 0
  joins_none q = (λ among. absurd (nothing_in_nil q among), λ h. absurd (nothing_in_nil q h.0))

  module _ (names : List Text) (i : ℕ) (name : Text) (less : i < length every)
      (is : name ≡ get_or every i name) (so : Joins names i) where
    more_has : (q : Text) → Contains (take i every ++ name ∷ []) q → Contains (take (i + 1) every) q
    more_has q h = subst (λ (ns : List Text). Contains ns q) (sym (so_far every i name less is)) h

    more_cases : (q : Text)
        → Contains (take (i + 1) every) q
        → Contains (take i every) q ⊎ (name ≡ q)
    more_cases q h = Contains-push_cases (take i every) name q
        (subst (λ (ns : List Text). Contains ns q) (so_far every i name less is) h)

    pub joins_absent : tree.get text_cmp nodes name ≡ None → Joins (names ++ name ∷ []) (i + 1)
    joins_absent none q = (
      λ among. elim (Contains-push_cases names name q among) [
        | inl earlier ↦
            (let h = (so q).0 earlier in
            (more_has q (Contains-append_left (take i every) (name ∷ []) q h.0), h.1))
        | inr last ↦ (
          more_has q
              (subst
              (λ (z : Text). Contains (take i every ++ name ∷ []) z) last
              (Contains-push (take i every) name)),
          subst (λ (z : Text). tree.get text_cmp nodes z ≡ None) last none,
        )
      ],
      λ h. elim (more_cases q h.0) [
        | inl earlier ↦ Contains-append_left names (name ∷ []) q ((so q).1 (earlier, h.1))
        | inr last ↦
            subst (λ (z : Text). Contains (names ++ name ∷ []) z) last (Contains-push names name)
      ],
    )

    pub joins_there : (n : Node L l) → tree.get text_cmp nodes name ≡ Some n → Joins names (i + 1)
    joins_there n has q = (
      λ among.
          (let h = (so q).0 among in
          (more_has q (Contains-append_left (take i every) (name ∷ []) q h.0), h.1)),
      λ h. elim (more_cases q h.0) [
        | inl earlier ↦ (so q).1 (earlier, h.1)
        | inr last ↦ absurd
            (not_some n (tree.get text_cmp nodes name)
            (subst (λ (z : Text). tree.get text_cmp nodes z ≡ None) (sym last) h.1) has)
      ],
    )

    pub joins_on : (new : List Text) → AddsAbsent nodes name names new → Joins new (i + 1)
    joins_on new h = by (tree.get text_cmp nodes name) refl h
      where
        by : (o : Option (Node L l))
            → tree.get text_cmp nodes name ≡ o
            → AddsIn o name names new → Joins new (i + 1)
        by None e a = subst (λ (ns : List Text). Joins ns (i + 1)) (sym a) (joins_absent e)
        by (Some n) e a = subst (λ (ns : List Text). Joins ns (i + 1)) (sym a) (joins_there n e)

  pub joins_all : (plan : Network) (names : List Text) (i : ℕ)
      → AreNames plan every → length every ≤ i → Joins names i
      → AreJoining plan nodes names
  joins_all plan names i are whole so q =
      let listed = mapped (λ (n : PlannedNode). n.name) plan.nodes in
      let same : take i every ≡ every = take_all i every whole in (
        λ among. let h = (so q).0 among in
            let in_plan : Contains listed q = Contains-permutation every listed q
            (IsPermutation-sym listed every are.all)
            (subst (λ (ns : List Text). Contains ns q) same h.0) in
            let n = named_node plan.nodes q in_plan in ((n.0, (n.1, n.2)), h.1),
        λ h. (so q).1 (
          subst
              (λ (ns : List Text). Contains ns q) (sym same)
              (Contains-permutation listed every q are.all
              (name_among plan.nodes h.0.0 q h.0.1.0 h.0.1.1)),
          h.1,
        ),
      )

-- ---- a change, as the code makes it

same_all : {L : Type 0} {l : Ghosts L} (old new : World L l)
    → AreSameNodes old.nodes new.nodes
    → new.wires ≡ old.wires → new.time ≡ old.time → new.opened ≡ old.opened → AllStand new
    → contents new ≡ contents old
same_all {L} {l} old new same wires time opened all =
    let seats : (q : Text) → seats_of new.nodes q ≡ seats_of old.nodes q = same.1 all in
    λ i. record {
      now = (time i).passed;
      opened = opened i;
      seats = λ q. seats q i;
      wires = λ number. tree.get nat_cmp (wires i) number;
    }

module _ {L : Type 0} {l : Ghosts L} (next : Network) (own : Certificate) (old new : World L l)
    (names : List Text) (are : AreNamesOf (books_of old.nodes) names) where
  -- nothing is done where an end is on, or a node is none of the next plan's
  pub skipped_on : new ≡ old
      → some_is_on old.nodes old.wires ≡ true
      → ChangesTo next own old Skipped new
  skipped_on is on = (
    (λ all. let P : World L l → Type 0 = λ w. AllStand w in subst P is all),
    λ plan certificate certified b seated shown all. ∣ (
      ap (λ (w : World L l). contents w) is,
      inl (an_end_is_on plan next certificate own old names are b seated shown on),
    ) ∣₁,
  )

  pub skipped_stranger : new ≡ old → (AreNodes next names → ⊥) → ChangesTo next own old Skipped new
  skipped_stranger is none = (
    (λ all. let P : World L l → Type 0 = λ w. AllStand w in subst P is all),
    λ plan certificate certified b seated shown all. ∣ (
      ap (λ (w : World L l). contents w) is,
      inr (a_stranger plan next certificate own old names are b seated shown none),
    ) ∣₁,
  )

  -- nothing is changed where a row doesn't fit
  pub found_a_row : (node uid dest : Text)
      → some_is_on old.nodes old.wires ≡ false
      → AreNodes next names
      → new.wires ≡ old.wires → new.time ≡ old.time → new.opened ≡ old.opened
      → Finds next names old.nodes (Unfit node uid dest) new.nodes
      → ChangesTo next own old (Unfit node uid dest) new
  found_a_row node uid dest none stay wires time opened found = (
    found.0.0,
    λ plan certificate certified b seated shown all.
        let f = found.1 all in
        ∣ (
          same_all old new found.0 wires time opened all,
          all_over old b shown none,
          all_stay plan next certificate old names are b seated shown node uid dest f.0 f.1 f.2
              f.3 f.4.0 f.4.1 f.4.2 stay,
          first_unfit plan next certificate old names are b seated shown node uid dest f.0 f.1 f.2
              f.3 f.4.0 f.4.1 f.4.2,
        ) ∣₁,
  )

  -- all nodes took it
  pub all_took : (mid : World L l) (joins : List Text)
      → some_is_on old.nodes old.wires ≡ false
      → AreNodes next names
      → AreJoining next mid.nodes joins
      → Finds next names old.nodes Adopted mid.nodes
      → mid.time ≡ old.time → mid.opened ≡ old.opened
      → Took next own names joins mid new
      → ChangesTo next own old Adopted new
  all_took mid joins none stay joining found time opened took = (
    stood plan_of next certificate_of own old new mid.nodes took.0 names joins are joining found.0
        took.1 took.2,
    λ plan certificate certified b seated shown all. ∥∥₁_map
        (all_bare plan next certificate own old new mid.nodes took.0 names joins are joining found.0
        took.1 took.2 all seated) (λ bare. comes plan next certificate own old new mid.nodes took.0
        names joins are joining found.0 took.1 took.2 all seated b shown (all_over old b shown none)
        stay took.3 (took.4 ∙ time) (took.5 ∙ opened) bare),
  )
    where
      plan_of : Network
      plan_of = next

      certificate_of : Certificate
      certificate_of = own
