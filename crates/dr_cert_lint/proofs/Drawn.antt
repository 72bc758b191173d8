-- The edges of a certificate's hops.
use Rattle.std.proofs.Common.{◌≡◌, ℕ, ◌+◌, ◌*◌, ◌<◌, ◌⊎◌, inl, inr, refl, sym, ap, subst, ◌∙◌, true, false, List, [], ◌∷◌, ◌++◌, length, get_or, take, Contains, Some, arith}
use Rattle.std.specs.Prelude.{◌↔◌, ◌==◌, Bool, AllPairs, All, flat_map, slice_get}
use Rattle.std.specs.declared.cmp.Ordering.TheVariants.{Less, Equal}
use Rattle.std.proofs.lemmas.Bool.{cases_Bool, false≢true}
use Rattle.std.proofs.lemmas.Grind.{flat_map-append}
use Rattle.std.proofs.lemmas.List.{append-nil, take_more}
use Rattle.std.proofs.lemmas.Cmp.{tied_itself, nat_list_cmp_total}
use Rattle.std.proofs.lemmas.List.Elements.{Contains-append_cases, Contains-append_left, Contains-append_right, All-nil}
use Rattle.std.proofs.lemmas.List.Kept.{AllPairs-cons}
use Rattle.dr_base.specs.Texts.{Text, text_cmp}
use Rattle.dr_base.specs.declared.syntax.Syntax.{Syntax}
use Rattle.dr_plan_model.specs.Networks.{Network}
use Rattle.dr_plan_model.proofs.Gathered.{nothing_in_nil, only_one, Contains-here, Contains-there, Contains-cons_cases}
use Rattle.dr_plan_model.proofs.WalksAlike.{all_from_each}
use Rattle.dr_plan_sound.specs.declared.certificate.Certificate.{Certificate}
use Rattle.dr_plan_sound.specs.declared.certificate.Hop.{Hop}
use Rattle.dr_plan_sound.specs.Certificates.{AreHopPairs, HasHop, IsCertificateOf, pair_cmp}
use Rattle.dr_plan_sound.specs.Printed.{printed_hop}
use Rattle.dr_plan_sound.proofs.PairLists.{pair_total}
use Rattle.dr_cert_hops.proofs.Rows.{head_below, same_sorted, tail_sorted}
use Rattle.dr_cert_lint.specs.Edges.{AreEdges, IsEdge, contexts_between, edge_over, edges_at}
use Rattle.dr_cert_lint.specs.declared.edges.Edge.{Edge}

-- what one element of a list gives, and what all give
module _ {X Y : Type 0} (f : X → List Y) where
  given_by : (xs : List X) (x : X) (y : Y) → Contains xs x → Contains (f x) y → Contains (flat_map f xs) y
  given_by [] x y among inner = absurd (nothing_in_nil x among)
  given_by (z ∷ xs) x y among inner = elim (Contains-cons_cases z xs x among) [
    | inl same ↦ Contains-append_left (f z) (flat_map f xs) y (subst (λ (w : X). Contains (f w) y) (sym same) inner)
    | inr later ↦ Contains-append_right (f z) (flat_map f xs) y (given_by xs x y later inner)
  ]

  given_from : (xs : List X) (y : Y) → Contains (flat_map f xs) y → (x : X) × Contains xs x × Contains (f x) y
  given_from [] y among = absurd (nothing_in_nil y among)
  given_from (z ∷ xs) y among = elim (Contains-append_cases (f z) (flat_map f xs) y among) [
    | inl here ↦ (z, Contains-here z xs, here)
    | inr later ↦ (let found = given_from xs y later in (found.0, Contains-there z xs found.0 found.1, found.2))
  ]

  -- what one element more gives
  pub flat_map_more : (xs : List X) (i : ℕ) (x : X) → i < length xs → x ≡ get_or xs i x → flat_map f (take (i + 1) xs) ≡ flat_map f (take i xs) ++ f x
  flat_map_more xs i x lt at =
      let more : take (i + 1) xs ≡ take i xs ++ x ∷ [] = take_more xs i x lt ∙ ap (λ (y : X). take i xs ++ y ∷ []) (sym at) in
      ap (λ (ys : List X). flat_map f ys) more ∙ (flat_map-append f (take i xs) (x ∷ []) ∙ ap (λ (ys : List Y). flat_map f (take i xs) ++ ys) (append-nil (f x)))

-- a context is the first of its hop, or it isn't
first_or_not : (hops : List Hop) (hop : Hop) → ((hop.id ≡ 1) × (edges_at hops hop ≡ edge_over hops hop ∷ [])) ⊎ (edges_at hops hop ≡ [])
first_or_not hops hop = elim (cases_Bool (hop.id == 1)) [
  | inl first ↦ inl (grind arith, rw first refl)
  | inr other ↦ inr (rw other refl)
]

edge_at_first : (hops : List Hop) (hop : Hop) → hop.id ≡ 1 → Contains (edges_at hops hop) (edge_over hops hop)
edge_at_first hops hop first =
    let one : (hop.id == 1) ≡ true = ap (λ (n : ℕ). n == 1) first in
    let is : edges_at hops hop ≡ edge_over hops hop ∷ [] = rw one refl in
    subst (λ (es : List Edge). Contains es (edge_over hops hop)) (sym is) (Contains-here (edge_over hops hop) [])

from_first : (hops : List Hop) (hop : Hop) (edge : Edge) → Contains (edges_at hops hop) edge → (hop.id ≡ 1) × (edge_over hops hop ≡ edge)
from_first hops hop edge among = elim (first_or_not hops hop) [
  | inl first ↦ (first.0, only_one (edge_over hops hop) edge (subst (λ (es : List Edge). Contains es edge) first.1 among))
  | inr none ↦ absurd (nothing_in_nil edge (subst (λ (es : List Edge). Contains es edge) none among))
]

module _ (plan : Network) (certificate : Certificate) (own : IsCertificateOf plan certificate) where
  -- a hop that has a context has a first one
  first_of : (hop : Hop) → Contains certificate.hops hop → (first : Hop) × Contains certificate.hops first × (first.id ≡ 1) × (first.from ≡ hop.from) × (first.to ≡ hop.to)
  first_of hop among =
      let has : HasHop plan hop = (own.hops hop).0 among in
      starting has.0 has.1 has.2 has.3
    where
      starting : (all : List (Text × Syntax)) (k : ℕ) → AreHopPairs plan hop.from hop.to all → slice_get all k ≡ Some (hop.class, hop.syntax) →
          (first : Hop) × Contains certificate.hops first × (first.id ≡ 1) × (first.from ≡ hop.from) × (first.to ≡ hop.to)
      starting [] k are at = absurd (cc at)
      starting (p ∷ ps) k are at =
          let first : Hop = record { «from» = hop.from; «to» = hop.to; id = 1; class = p.0; syntax = p.1 } in
          (first, (own.hops first).1 (p ∷ ps, 0, are, refl, refl), refl, refl, refl)

  -- there is one first context
  one_first : (a b : Hop) → Contains certificate.hops a → Contains certificate.hops b → a.id ≡ 1 → b.id ≡ 1 → a.from ≡ b.from → a.to ≡ b.to → printed_hop a ≡ printed_hop b
  one_first a b in_a in_b one_a one_b same_from same_to =
      let has_a : HasHop plan a = (own.hops a).0 in_a in
      let has_b : HasHop plan b = (own.hops b).0 in_b in
      let F : Text → Type 0 = λ f. AreHopPairs plan f a.to has_a.0 in
      let T : Text → Type 0 = λ t. AreHopPairs plan b.from t has_a.0 in
      let pairs : AreHopPairs plan b.from b.to has_a.0 = subst T same_to (subst F same_from has_a.2) in
      let lists : has_a.0 ≡ has_b.0 = same_sorted pair_cmp pair_total has_a.0 has_b.0 pairs.ordered has_b.2.ordered (λ p. (λ h. (has_b.2.each p).1 ((pairs.each p).0 h), λ h. (pairs.each p).1 ((has_b.2.each p).0 h))) in
      let zero_a : has_a.1 ≡ 0 = omega (arith, has_a.4) in
      let zero_b : has_b.1 ≡ 0 = omega (arith, has_b.4) in
      let at_a : slice_get has_b.0 0 ≡ Some (a.class, a.syntax) = ap (λ (l : List (Text × Syntax)). slice_get l 0) (sym lists) ∙ ap (λ (n : ℕ). slice_get has_a.0 n) (sym zero_a) ∙ has_a.3 in
      let at_b : slice_get has_b.0 0 ≡ Some (b.class, b.syntax) = ap (λ (n : ℕ). slice_get has_b.0 n) (sym zero_b) ∙ has_b.3 in
      let pair : (let q : Text × Syntax = (a.class, a.syntax) in q) ≡ (b.class, b.syntax) = cc (at_a, at_b) in
      let mk : Text → Text → ℕ → Text × Syntax → Text = λ f t n q. printed_hop (record { «from» = f; «to» = t; id = n; class = q.0; syntax = q.1 }) in
      ap (λ (f : Text). mk f a.to a.id (a.class, a.syntax)) same_from ∙ (ap (λ (t : Text). mk b.from t a.id (a.class, a.syntax)) same_to
      ∙ (ap (λ (n : ℕ). mk b.from b.to n (a.class, a.syntax)) (one_a ∙ sym one_b) ∙ ap (λ (q : Text × Syntax). mk b.from b.to b.id q) pair))

  abbrev AreApart : List Edge → Type 0
  AreApart edges = AllPairs (λ a b. a.from ≡ b.from → a.to ≡ b.to → ⊥) edges

  apart_in : (hops : List Hop) → AllPairs (λ a b. text_cmp (printed_hop a) (printed_hop b) ≡ Less) hops → ((hop : Hop) → Contains hops hop → Contains certificate.hops hop) →
      AreApart (flat_map (edges_at certificate.hops) hops)
  apart_in [] ordered within = λ i j d lt h. absurd (omega arith)
  apart_in (hop ∷ hops) ordered within =
      let later = apart_in hops (tail_sorted (λ (p q : Hop). text_cmp (printed_hop p) (printed_hop q)) hop hops ordered) (λ h among. within h (Contains-there hop hops h among)) in
      elim (first_or_not certificate.hops hop) [
        | inr none ↦ subst (λ (es : List Edge). AreApart (es ++ flat_map (edges_at certificate.hops) hops)) (sym none) later
        | inl first ↦ subst (λ (es : List Edge). AreApart (es ++ flat_map (edges_at certificate.hops) hops)) (sym first.1)
            (AllPairs-cons (λ (a b : Edge). a.from ≡ b.from → a.to ≡ b.to → ⊥) (edge_over certificate.hops hop) (flat_map (edges_at certificate.hops) hops)
            (all_from_each (λ (b : Edge). hop.from ≡ b.from → hop.to ≡ b.to → ⊥) (flat_map (edges_at certificate.hops) hops) (λ b among same_from same_to.
            (let found = given_from (edges_at certificate.hops) hops b among in
            let at = from_first certificate.hops found.0 b found.2 in
            let f : hop.from ≡ found.0.from = same_from ∙ sym (ap (λ (e : Edge). e.from) at.1) in
            let t : hop.to ≡ found.0.to = same_to ∙ sym (ap (λ (e : Edge). e.to) at.1) in
            let printed = one_first hop found.0 (within hop (Contains-here hop hops)) (within found.0 (Contains-there hop hops found.0 found.1)) first.0 at.0 f t in
            let below : text_cmp (printed_hop hop) (printed_hop found.0) ≡ Less = head_below (λ (p q : Hop). text_cmp (printed_hop p) (printed_hop q)) hop hops ordered found.0 found.1 in
            let tied : text_cmp (printed_hop hop) (printed_hop found.0) ≡ Equal = ap (λ (x : Text). text_cmp (printed_hop hop) x) (sym printed) ∙ tied_itself nat_list_cmp_total (printed_hop hop) in
            let never : Less ≡ Equal = sym below ∙ tied in absurd (cc never))))
            later)
      ]

  -- the edges of the first contexts are all
  pub are_edges : AreEdges certificate.hops (flat_map (edges_at certificate.hops) certificate.hops)
  are_edges = record {
    each = λ edge. (
      λ among. (let found = given_from (edges_at certificate.hops) certificate.hops edge among in
          let at = from_first certificate.hops found.0 edge found.2 in
          subst (λ (e : Edge). IsEdge certificate.hops e) at.1 ((found.0, found.1, refl, refl), refl)),
      λ is. (let first = first_of is.0.0 is.0.1 in
          let f : first.0.from ≡ edge.from = first.3 ∙ is.0.2 in
          let t : first.0.to ≡ edge.to = first.4 ∙ is.0.3 in
          let mk : Text → Text → ℕ → Edge = λ a b n. record { «from» = a; «to» = b; contexts = n } in
          let same : edge_over certificate.hops first.0 ≡ edge =
          ap (λ (a : Text). mk a first.0.to (contexts_between certificate.hops a first.0.to)) f ∙ (ap (λ (b : Text). mk edge.from b (contexts_between certificate.hops edge.from b)) t ∙ ap (λ (n : ℕ). mk edge.from edge.to n) (sym is.1)) in
          subst (λ (e : Edge). Contains (flat_map (edges_at certificate.hops) certificate.hops) e) same
          (given_by (edges_at certificate.hops) certificate.hops first.0 (edge_over certificate.hops first.0) first.1 (edge_at_first certificate.hops first.0 first.2))),
    );
    apart = apart_in certificate.hops own.hops_ordered (λ hop among. among);
  }
