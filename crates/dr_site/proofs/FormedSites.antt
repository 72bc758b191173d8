-- Sites have the form that plans have.
use Rattle.std.proofs.Common.{◌≡◌, ◌≢◌, ℕ, zero, suc, ◌+◌, ◌*◌, ◌<◌, ◌≤◌, inl, inr, refl, sym, ◌∙◌, ap, subst, List, [], ◌∷◌, length, get_or, slice_get, Contains, Some, arith}
use Rattle.std.specs.Prelude.{All, AllPairs, filter, map}
use Rattle.std.specs.List.{IsDistinct}
use Rattle.std.specs.Str.{bytes_eq}
use Rattle.std.specs.declared.cmp.Ordering.{Ordering}
use Rattle.std.specs.declared.cmp.Ordering.TheVariants.{Less, Equal}
use Rattle.std.proofs.lemmas.Bool.{cases_Bool, cases_lt, false≢true}
use Rattle.std.proofs.lemmas.Cmp.{tied_itself, nat_list_cmp_total}
use Rattle.std.proofs.lemmas.List.Elements.{All-contains, Contains-get_or}
use Rattle.std.proofs.lemmas.List.Kept.{AllPairs-filter}
use Rattle.std.proofs.lemmas.List.Sorted.{IsPermutation-map}
use Rattle.std.proofs.lemmas.Map.Keys.{IsDistinct-IsPermutation}
use Rattle.std.proofs.lemmas.Map.Made.{AllPairs-from_IsDistinct, IsDistinct-from_AllPairs}
use Rattle.std.proofs.lemmas.Option.{slice_get_within, same_Some}
use Rattle.std.proofs.lemmas.Slice.Eq.{bytes_eq-Decides}
use Rattle.dr_base.specs.Texts.{Text, text_cmp}
use Rattle.dr_base.specs.declared.syntax.Syntax.{Syntax}
use Rattle.dr_route.specs.declared.accept.AcceptRow.{AcceptRow}
use Rattle.dr_plan_model.specs.declared.plan.Node.{Node}
use Rattle.dr_plan_model.specs.Formed.{IsName, IsClass, IsMaxPdu, IsKnownName, IsWellFormedNode, IsWellFormedFlow, IsAcceptRow}
use Rattle.dr_plan_model.specs.Networks.{Network}
use Rattle.dr_plan_model.specs.Plans.{IsWellFormed}
use Rattle.dr_plan_model.specs.Walks.{GoesOver}
use Rattle.dr_plan_model.proofs.WalksAlike.{sent_to_a_node, all_from_each}
use Rattle.dr_plan_sound.specs.declared.certificate.Hop.{Hop}
use Rattle.dr_plan_sound.specs.declared.certificate.Certificate.{Certificate}
use Rattle.dr_plan_sound.specs.Certificates.{HasHop, AreHopPairs, pair_cmp}
use Rattle.dr_plan_sound.specs.Printed.{printed_hop}
use Rattle.dr_plan_sound.proofs.PairLists.{pair_total}
use Rattle.dr_cert_hops.proofs.Rows.{same_sorted, map_pairs, unmap_apart}
use Rattle.dr_site.specs.Parts.{Part, IsPartOf, begins_at, ends_at, hops_to}
use Rattle.dr_site.specs.Sites.{IsCertified}
use Rattle.dr_site.specs.Forms.{IsFormedHop, IsFormedRow, SitesAreFormed}
use Rattle.dr_site.proofs.ContextsAsPlanned.{hop_to, site_hop, hop_goes}

-- ---- one hop

-- what is less is something else
less_apart : {X : Type 0} (R : X → X → Ordering) → ((x : X) → R x x ≡ Equal) → (x y : X) → R x y ≡ Less → x ≢ y
less_apart R tied x y less same = let e : Less ≡ Equal = sym less ∙ (ap (λ z. R z y) same ∙ tied y) in cc e

-- the list of a hop's pairs has no pair twice
pairs_apart : (plan : Network) (a b : Text) (all : List (Text × Syntax)) → AreHopPairs plan a b all → AllPairs (λ p q. p ≢ q) all
pairs_apart plan a b all are i j d lt h = less_apart pair_cmp (tied_itself pair_total) (get_or all i d) (get_or all j d) (are.ordered i j d lt h)

number_is_low : (plan : Network) (certificate : Certificate) → IsCertified plan certificate → (hop : Hop) → (h : HasHop plan hop) → h.1 < 128
number_is_low plan certificate sealed hop h =
    let few : length h.0 ≤ 128 = sealed.sound.few_pairs hop.from hop.to h.0 (pairs_apart plan hop.from hop.to h.0 h.2) (all_from_each (GoesOver plan hop.from hop.to) h.0 (λ p m. (h.2.each p).0 m)) in
    let low : h.1 < length h.0 = slice_get_within h.0 h.1 (hop.class, hop.syntax) h.3 in
    omega arith

-- the class of a pair that goes over a hop is that of a flow
class_formed : (plan : Network) → IsWellFormed plan → (a b class : Text) (syntax : Syntax) → GoesOver plan a b (class, syntax) → IsClass class
class_formed plan formed a b class syntax goes =
    let entered = goes.2.1.2.1 in
    let flow : IsWellFormedFlow plan.nodes entered.0 = All-contains (IsWellFormedFlow plan.nodes) plan.flows entered.0 formed.each_flow entered.1 in
    let P : Text → Type 0 = λ c. IsClass c in
    subst P (sym (ap (λ (p : Text × Syntax). p.0) goes.1)) (All-contains IsClass entered.0.classes goes.0.class flow.classes.1 entered.4.class)

name_formed : (plan : Network) → IsWellFormed plan → (a b : Text) (pair : Text × Syntax) → GoesOver plan a b pair → IsName b
name_formed plan formed a b pair goes =
    let known : IsKnownName plan.nodes b = sent_to_a_node plan formed a goes.2.0 goes.0 b goes.2.2 in
    let P : Text → Type 0 = λ t. IsName t in
    subst P known.2 (All-contains (IsWellFormedNode plan.nodes) plan.nodes known.0 formed.each_node known.1).name

hop_formed : (plan : Network) (certificate : Certificate) (part : Part) → IsCertified plan certificate → IsPartOf plan certificate part → (hop : Hop) → Contains part.hops hop → IsFormedHop part hop
hop_formed plan certificate part sealed is hop among =
    let own = site_hop plan certificate part sealed is hop among in
    let goes = hop_goes plan hop own.0 in record {
      «from» = own.1;
      «to» = name_formed plan sealed.formed hop.from hop.to (hop.class, hop.syntax) goes;
      class = class_formed plan sealed.formed hop.from hop.to hop.class hop.syntax goes;
      id = (own.0.1, number_is_low plan certificate sealed hop own.0, own.0.4);
    }

-- ---- hops of one site to one node have different ids

flipped : (x y : Text) → bytes_eq x y ≡ bytes_eq y x
flipped x y = elim (cases_Bool (bytes_eq x y)) [
  | inl same ↦ same ∙ sym ((bytes_eq-Decides y x).1 (sym ((bytes_eq-Decides x y).0 same)))
  | inr apart ↦ elim (cases_Bool (bytes_eq y x)) [
    | inl same ↦ absurd (false≢true (sym apart ∙ (bytes_eq-Decides x y).1 (sym ((bytes_eq-Decides y x).0 same))))
    | inr other ↦ apart ∙ sym other
  ]
]

hops_apart : (plan : Network) (certificate : Certificate) (part : Part) → IsCertified plan certificate → IsPartOf plan certificate part → AllPairs (λ a b. a ≢ b) part.hops
hops_apart plan certificate part sealed is =
    let own = filter (begins_at part.name) certificate.hops in
    let ordered = AllPairs-filter (λ (a b : Hop). text_cmp (printed_hop a) (printed_hop b) ≡ Less) (begins_at part.name) certificate.hops sealed.certified.hops_ordered in
    let apart : AllPairs (λ a b. a ≢ b) (map printed_hop own) = map_pairs printed_hop (λ (a b : Hop). text_cmp (printed_hop a) (printed_hop b) ≡ Less) (λ (s t : Text). s ≢ t) own
    (λ a b _ _ less. less_apart text_cmp (tied_itself nat_list_cmp_total) (printed_hop a) (printed_hop b) less) ordered in
    let distinct : IsDistinct bytes_eq (map printed_hop own) = IsDistinct-from_AllPairs bytes_eq-Decides (map printed_hop own) apart in
    let moved : IsDistinct bytes_eq (map printed_hop part.hops) = IsDistinct-IsPermutation bytes_eq flipped (map printed_hop own) (map printed_hop part.hops) (IsPermutation-map printed_hop own part.hops is.hops.same) distinct in
    unmap_apart printed_hop part.hops (AllPairs-from_IsDistinct bytes_eq-Decides (map printed_hop part.hops) moved)

-- a hop by its ends, its id and its pair
hop_by : Text → Text → ℕ → Text × Syntax → Hop
hop_by a b n pair = record { «from» = a; «to» = b; id = n; class = pair.0; syntax = pair.1 }

same_hop : (a b : Hop) → a.from ≡ b.from → a.to ≡ b.to → a.id ≡ b.id → (let p : Text × Syntax = (a.class, a.syntax) in p) ≡ (b.class, b.syntax) → a ≡ b
unfolding hop_by
same_hop a b f t n p =
    ap (λ (x : Text). hop_by x a.to a.id (a.class, a.syntax)) f ∙ (ap (λ (x : Text). hop_by b.from x a.id (a.class, a.syntax)) t
    ∙ (ap (λ (x : ℕ). hop_by b.from b.to x (a.class, a.syntax)) n ∙ ap (λ (x : Text × Syntax). hop_by b.from b.to b.id x) p))

one_list : (plan : Network) (a b c d : Text) (xs ys : List (Text × Syntax)) → a ≡ c → b ≡ d → AreHopPairs plan a b xs → AreHopPairs plan c d ys → xs ≡ ys
one_list plan a b c d xs ys ac bd are those =
    let P : Text → Type 0 = λ x. AreHopPairs plan x b xs in
    let Q : Text → Type 0 = λ x. AreHopPairs plan c x xs in
    let these : AreHopPairs plan c d xs = subst Q bd (subst P ac are) in
    same_sorted pair_cmp pair_total xs ys these.ordered those.ordered (λ p. (λ h. (those.each p).1 ((these.each p).0 h), λ h. (these.each p).1 ((those.each p).0 h)))

-- of the numbered pairs of one hop, those of one id are one
one_id : (plan : Network) (a b : Hop) → HasHop plan a → HasHop plan b → a.from ≡ b.from → a.to ≡ b.to → a.id ≡ b.id → a ≡ b
one_id plan a b h k f t n =
    let lists : h.0 ≡ k.0 = one_list plan a.from a.to b.from b.to h.0 k.0 f t h.2 k.2 in
    let first : a.id ≡ 2 * h.1 + 1 = h.4 in
    let second : b.id ≡ 2 * k.1 + 1 = k.4 in
    let places : h.1 ≡ k.1 = omega arith in
    let P : List (Text × Syntax) → Type 0 = λ l. slice_get l h.1 ≡ Some (a.class, a.syntax) in
    let Q : ℕ → Type 0 = λ i. slice_get k.0 i ≡ Some (a.class, a.syntax) in
    let at : slice_get k.0 k.1 ≡ Some (a.class, a.syntax) = subst Q places (subst P lists h.3) in
    same_hop a b f t n (same_Some _ _ (sym at ∙ k.3))

module _ (plan : Network) (certificate : Certificate) (part : Part) (sealed : IsCertified plan certificate) (is : IsPartOf plan certificate part) (dest : Text) where
  hop_at : (i : ℕ) (d : Hop) → i < length (hops_to part dest) → HasHop plan (get_or (hops_to part dest) i d) × ((get_or (hops_to part dest) i d).from ≡ part.name) × ((get_or (hops_to part dest) i d).to ≡ dest)
  hop_at i d lt =
      let hop = get_or (hops_to part dest) i d in
      let among = (hop_to part dest hop).0 (Contains-get_or (hops_to part dest) i d lt) in
      let own = site_hop plan certificate part sealed is hop among.0 in
      (own.0, own.1, among.1)

  pub ids_rise : AllPairs (λ (a b : Hop). a.id < b.id) (hops_to part dest)
  ids_rise i j d lt h =
      let a = get_or (hops_to part dest) i d in
      let b = get_or (hops_to part dest) j d in
      let by_id : AllPairs (λ (x y : Hop). x.id ≤ y.id) part.hops = λ i j d lt h. is.hops.by_id i j d (omega arith) h in
      let below : a.id ≤ b.id = AllPairs-filter (λ (x y : Hop). x.id ≤ y.id) (ends_at dest) part.hops by_id i j d lt h in
      let apart : a ≢ b = AllPairs-filter (λ (x y : Hop). x ≢ y) (ends_at dest) part.hops (hops_apart plan certificate part sealed is) i j d lt h in
      let here = hop_at i d (omega arith) in
      let there = hop_at j d h in
      elim (cases_lt a.id b.id) [
        | inl less ↦ less
        | inr more ↦ absurd (apart (one_id plan a b here.0 there.0 (here.1 ∙ sym there.1) (here.2 ∙ sym there.2) (omega arith)))
      ]

  low : (i : ℕ) (d : Hop) → i < length (hops_to part dest) → 2 * i + 1 ≤ (get_or (hops_to part dest) i d).id
  low zero d lt = let h = (hop_at 0 d lt).0 in omega (arith, h.4)
  low (suc i) d lt =
      let before = low i d (omega arith) in
      let rises = ids_rise i (suc i) d (omega arith) lt in
      let h = (hop_at i d (omega arith)).0 in
      let k = (hop_at (suc i) d lt).0 in
      omega (arith, before, rises, h.4, k.4)

  pub are_few : length (hops_to part dest) ≤ 128
  are_few = few (hops_to part dest) refl
    where
      few : (xs : List Hop) → xs ≡ hops_to part dest → length xs ≤ 128
      few [] e = omega arith
      few (x ∷ xs) e =
          let long : length (hops_to part dest) ≡ length xs + 1 = sym (ap (λ (l : List Hop). length l) e) ∙ omega arith in
          let last = low (length xs) x (omega arith) in
          let h = (hop_at (length xs) x (omega arith)).0 in
          let small = number_is_low plan certificate sealed (get_or (hops_to part dest) (length xs) x) h in
          omega (arith, last, h.4, small, long)

-- ---- a site

row_formed : (nodes : List Node) (row : AcceptRow) → IsAcceptRow nodes row → IsFormedRow row
row_formed nodes row is = record { class = is.class; some = is.some; apart = is.apart }

pub sites_are_formed : SitesAreFormed
sites_are_formed part site =
    let plan = site.some.0 in
    let certificate = site.some.1 in
    let sealed = site.some.2 in
    let is = site.some.3 in
    let node : IsWellFormedNode plan.nodes is.node.0 = All-contains (IsWellFormedNode plan.nodes) plan.nodes is.node.0 sealed.formed.each_node is.node.1.0.0 in
    let N : Text → Type 0 = λ t. IsName t in
    let M : ℕ → Type 0 = λ n. IsMaxPdu n in
    let R : List AcceptRow → Type 0 = λ rows. All IsFormedRow rows in record {
      name = subst N is.node.1.0.1 node.name;
      max_pdu = subst M (sym is.node.2) node.max_pdu;
      accepts = subst R (sym is.node.4) (λ k d h. row_formed plan.nodes _ (node.accepts k d h));
      hops = all_from_each (IsFormedHop part) part.hops (λ hop among. hop_formed plan certificate part sealed is hop among);
      rising = λ dest. ids_rise plan certificate part sealed is dest;
      few = λ dest. are_few plan certificate part sealed is dest;
    }
