-- All passages of a list of lines, numbered hop by hop, are the numbered pairs of the lines' hops.
use Rattle.std.proofs.Common.{◌≡◌, ◌≢◌, ℕ, zero, suc, ◌+◌, ◌*◌, ◌<◌, ◌≤◌, ◌⊎◌, inl, inr, refl, sym, ◌∙◌, ap, subst, List, [], ◌∷◌, ◌++◌, length, get_or, Contains, Some, None, true, false, cond, arith, append_assoc}
use Rattle.std.specs.Prelude.{◌↔◌, ◌&&◌, Bool, AllPairs, All, filter, map, slice_get}
use Rattle.std.specs.declared.cmp.Ordering.{Ordering}
use Rattle.std.specs.declared.cmp.Ordering.TheVariants.{Less, Equal, Greater}
use Rattle.std.specs.Ordering.{ordering_then, ordering_reverse}
use Rattle.std.specs.Cmp.{IsTotalOrder}
use Rattle.std.specs.Cmp.Lexicographic.{nat_list_cmp_total}
use Rattle.std.specs.List.Sorted.{IsStrictlySortedBy}
use Rattle.std.specs.Str.{bytes_eq}
use Rattle.std.proofs.lemmas.Cmp.{tied_itself, then_total, on_total}
use Rattle.std.proofs.lemmas.Bool.{cases_Bool, false≢true}
use Rattle.std.proofs.lemmas.Option.{same_Some}
use Rattle.std.proofs.lemmas.Map.Keys.{Less-from_sorted}
use Rattle.std.proofs.lemmas.List.{length-map, append-nil, get_or_append_left}
use Rattle.std.proofs.lemmas.Option.{slice_get_past}
use Rattle.std.proofs.Common.{length-append}
use Rattle.std.proofs.lemmas.List.Kept.{AllPairs-filter}
use Rattle.std.proofs.lemmas.List.Elements.{filter-append, Contains-append_left, Contains-push}
use Rattle.dr_base.specs.Texts.{Text, text_cmp}
use Rattle.dr_base.specs.Syntaxes.{syntax_uid}
use Rattle.dr_base.specs.declared.syntax.Syntax.{Syntax}
use Rattle.dr_base.specs.declared.syntax.Syntax.TheVariants.{Implicit, Explicit}
use Rattle.dr_base.specs.contracts.syntax.SyntaxOrd.TheImpl as syntaxes
use Rattle.dr_plan_model.proofs.Gathered.{nothing_in_nil, Contains-cons_cases, Contains-there, Contains-here}
use Rattle.dr_plan_model.proofs.WalksAlike.{all_from_each}
use Rattle.dr_plan_sound.specs.Certificates.{pair_cmp}
use Rattle.dr_plan_sound.specs.HopPairs.{OverHop, AreOverHop, HasNumber, AreNumbered, AreTooMany, hop_cmp}
use Rattle.dr_plan_sound.proofs.Pigeons.{no_more_than}
use Rattle.dr_plan_sound.specs.declared.certificate.Line.{Line}
use Rattle.dr_plan_sound.specs.declared.certificate.Hop.{Hop}
use Rattle.dr_cert_hops.specs.declared.hops.Passage.{Passage}
use Rattle.dr_cert_hops.specs.declared.hops.Ends.{Ends}
use Rattle.dr_cert_hops.specs.declared.hops.Numbered.{Numbered}
use Rattle.dr_cert_hops.specs.declared.hops.Numbered.TheVariants as numbered
use Rattle.dr_cert_hops.specs.contracts.hops.PassageOrd.TheImpl.Laws as passage_laws
use Rattle.dr_cert_hops.specs.Numbering.{passage_cmp, pair_of, ends_at, goes_over, count_over, hop_after, numbered_after, IsPassage, ArePassages, Numbers, NumbersAll}
use Rattle.dr_cert_hops.proofs.Keys.{goes_ends, goes_itself, same_passage}
use Rattle.dr_cert_hops.proofs.Counting.{one_over}
use Rattle.dr_cert_hops.proofs.Rows.{filter_has, tail_sorted, head_below, same_sorted, at_seam, map_has, map_of, map_pairs, unmap_apart}

pair_total : IsTotalOrder pair_cmp
pair_total = then_total (on_total (λ (p : Text × Syntax). p.0) nat_list_cmp_total) (on_total (λ (p : Text × Syntax). syntax_uid p.1) nat_list_cmp_total)

same_order : (a b : Syntax) → syntaxes.cmp-value.it a b ≡ text_cmp (syntax_uid a) (syntax_uid b)
same_order Implicit Implicit = refl
same_order Implicit Explicit = refl
same_order Explicit Implicit = refl
same_order Explicit Explicit = refl

-- passages of one hop are in the order of their pairs
pairs_less : (p q : Passage) → p.from ≡ q.from → p.to ≡ q.to → passage_cmp p q ≡ Less → pair_cmp (pair_of p) (pair_of q) ≡ Less
pairs_less p q f t less =
    let from_equal : text_cmp p.from q.from ≡ Equal = ap (λ (x : Text). text_cmp p.from x) (sym f) ∙ tied_itself nat_list_cmp_total p.from in
    let to_equal : text_cmp p.to q.to ≡ Equal = ap (λ (x : Text). text_cmp p.to x) (sym t) ∙ tied_itself nat_list_cmp_total p.to in
    let rest : Ordering = ordering_then (text_cmp p.class q.class) (syntaxes.cmp-value.it p.syntax q.syntax) in
    let a : passage_cmp p q ≡ rest =
    ap (λ (o : Ordering). ordering_then o (ordering_then (text_cmp p.to q.to) rest)) from_equal ∙ ap (λ (o : Ordering). ordering_then o rest) to_equal in
    ap (λ (o : Ordering). ordering_then (text_cmp p.class q.class) o) (sym (same_order p.syntax q.syntax)) ∙ (sym a ∙ less)

goes_from : (a b : Text) (p : Passage) → goes_over a b p ≡ true → (p.from ≡ a) × (p.to ≡ b)
goes_from a b p e = let same = goes_ends a b p e in (sym (ap (λ (x : Ends). x.from) same), sym (ap (λ (x : Ends). x.to) same))

sorted_pairs : (ps : List Passage) → IsStrictlySortedBy passage_cmp ps → AllPairs (λ p q. passage_cmp p q ≡ Less) ps
sorted_pairs ps s i j d lt h = Less-from_sorted passage_cmp ps i j d s lt h

-- ---- the order of hops
hop_total : IsTotalOrder hop_cmp
hop_total = then_total (on_total (λ (p : Text × Text). p.0) nat_list_cmp_total) (on_total (λ (p : Text × Text). p.1) nat_list_cmp_total)

still_greater : (f t r : Ordering) → ordering_then f t ≡ Greater → ordering_then f (ordering_then t r) ≡ Greater
still_greater Less t r e = e
still_greater Greater t r e = e
still_greater Equal Less r e = e
still_greater Equal Equal r e = absurd (cc e)
still_greater Equal Greater r e = refl

not_before_itself : (q : Passage) → hop_cmp (q.from, q.to) (q.from, q.to) ≡ Less → ⊥
not_before_itself q less = (let e : Less ≡ Equal = sym less ∙ tied_itself hop_total (q.from, q.to) in cc e)

-- the hop of a passage that stands behind isn't before
not_before : (q x : Passage) → passage_cmp q x ≡ Less → hop_cmp (x.from, x.to) (q.from, q.to) ≡ Less → ⊥
not_before q x behind less =
    let back : hop_cmp (q.from, q.to) (x.from, x.to) ≡ Greater = hop_total.antisymm (q.from, q.to) (x.from, x.to) ∙ ap ordering_reverse less in
    let e : passage_cmp q x ≡ Greater =
    still_greater (text_cmp q.from x.from) (text_cmp q.to x.to) (ordering_then (text_cmp q.class x.class) (syntaxes.cmp-value.it q.syntax x.syntax)) back in
    let clash : Less ≡ Greater = sym behind ∙ e in
    cc clash

suffix_sorted : {X : Type 0} (R : X → X → Ordering) (front xs : List X) → AllPairs (λ p q. R p q ≡ Less) (front ++ xs) → AllPairs (λ p q. R p q ≡ Less) xs
suffix_sorted R [] xs s = s
suffix_sorted R (y ∷ front) xs s = suffix_sorted R front xs (tail_sorted R y (front ++ xs) s)

count_parts : (c d : Text) (xs ys : List Passage) → count_over c d (xs ++ ys) ≡ count_over c d xs + count_over c d ys
count_parts c d xs ys = ap (λ (zs : List Passage). length zs) (filter-append (goes_over c d) xs ys) ∙ length-append (filter (goes_over c d) xs) (filter (goes_over c d) ys)

count_none : (c d : Text) (xs : List Passage) → ((x : Passage) → Contains xs x → goes_over c d x ≡ true → ⊥) → count_over c d xs ≡ 0
count_none c d [] h = refl
count_none c d (x ∷ xs) h = elim (cases_Bool (goes_over c d x)) [
  | inl here ↦ absurd (h x (Contains-here x xs) here)
  | inr other ↦ (let none : filter (goes_over c d) (x ∷ xs) ≡ filter (goes_over c d) xs = rw other refl in
      ap (λ (zs : List Passage). length zs) none ∙ count_none c d xs (λ y among. h y (Contains-there x xs y among)))
]

-- ---- the pairs of a hop
pub over : Text → Text → List Passage → List (Text × Syntax)
over a b ps = map pair_of (filter (goes_over a b) ps)

module _ (lines : List Line) (ps : List Passage) (are : ArePassages lines ps) where
  over_ordered : (a b : Text) (front : List Passage) → AllPairs (λ p q. passage_cmp p q ≡ Less) front → AllPairs (λ p q. pair_cmp p q ≡ Less) (over a b front)
  unfolding over
  over_ordered a b front s = map_pairs pair_of (λ p q. passage_cmp p q ≡ Less) (λ p q. pair_cmp p q ≡ Less) (filter (goes_over a b) front)
      (λ p q in_p in_q less.
      let x = goes_from a b p ((filter_has (goes_over a b) front p).0 in_p).1 in
      let y = goes_from a b q ((filter_has (goes_over a b) front q).0 in_q).1 in
      pairs_less p q (x.0 ∙ sym y.0) (x.1 ∙ sym y.1) less)
      (AllPairs-filter (λ p q. passage_cmp p q ≡ Less) (goes_over a b) front s)

  over_shown : (a b : Text) (front : List Passage) → ((p : Passage) → Contains front p → Contains ps p) → (pair : Text × Syntax) → Contains (over a b front) pair → OverHop lines a b pair
  unfolding over
  over_shown a b front within pair h =
      let m = map_has pair_of (filter (goes_over a b) front) pair h in
      let p : Passage = m.0 in
      let n = (filter_has (goes_over a b) front p).0 m.1 in
      let ends = goes_from a b p n.1 in
      let shown : IsPassage lines p = (are.each p).0 (within p n.0) in
      let P : Text → Type 0 = λ x. OverHop lines x p.to (pair_of p) in
      let Q : Text → Type 0 = λ x. OverHop lines a x (pair_of p) in
      let R : Text × Syntax → Type 0 = λ x. OverHop lines a b x in
      subst R m.2 (subst Q ends.1 (subst P ends.0 shown))

  over_has : (a b : Text) (pair : Text × Syntax) → OverHop lines a b pair → Contains (over a b ps) pair
  unfolding over
  over_has a b pair h =
      let p : Passage = record { «from» = a; «to» = b; class = pair.0; syntax = pair.1 } in
      map_of pair_of (filter (goes_over a b) ps) p ((filter_has (goes_over a b) ps p).1 ((are.each p).1 h, goes_itself p p refl))

  pub all_over : (a b : Text) → AreOverHop lines a b (over a b ps)
  all_over a b = record {
    ordered = over_ordered a b ps (sorted_pairs ps are.ordered);
    each = λ pair. (over_shown a b ps (λ p h. h) pair, over_has a b pair);
  }

  -- ---- a passage behind a front has its number
  over_seam : (a b : Text) (front : List Passage) (q : Passage) (back : List Passage) → goes_over a b q ≡ true → slice_get (over a b (front ++ q ∷ back)) (count_over a b front) ≡ Some (pair_of q)
  unfolding over
  over_seam a b front q back e =
      let here : filter (goes_over a b) (q ∷ back) ≡ q ∷ filter (goes_over a b) back = rw e refl in
      let parts : filter (goes_over a b) (front ++ q ∷ back) ≡ filter (goes_over a b) front ++ q ∷ filter (goes_over a b) back =
      filter-append (goes_over a b) front (q ∷ back) ∙ ap (λ (xs : List Passage). filter (goes_over a b) front ++ xs) here in
      let images : map pair_of (filter (goes_over a b) (front ++ q ∷ back)) ≡ map pair_of (filter (goes_over a b) front) ++ pair_of q ∷ map pair_of (filter (goes_over a b) back) =
      ap (λ (xs : List Passage). map pair_of xs) parts ∙ map_append (filter (goes_over a b) front) (q ∷ filter (goes_over a b) back) in
      ap (λ (xs : List (Text × Syntax)). slice_get xs (count_over a b front)) images
      ∙ (ap (λ (n : ℕ). slice_get (map pair_of (filter (goes_over a b) front) ++ pair_of q ∷ map pair_of (filter (goes_over a b) back)) n) (sym (length-map (filter (goes_over a b) front) pair_of))
      ∙ at_seam (map pair_of (filter (goes_over a b) front)) (pair_of q) (map pair_of (filter (goes_over a b) back)))
    where
      map_append : (xs ys : List Passage) → map pair_of (xs ++ ys) ≡ map pair_of xs ++ map pair_of ys
      map_append [] ys = refl
      map_append (x ∷ xs) ys = ap (λ (zs : List (Text × Syntax)). pair_of x ∷ zs) (map_append xs ys)

  numbered_has : (front : List Passage) (q : Passage) (back : List Passage) → front ++ q ∷ back ≡ ps → HasNumber lines (hop_after q (count_over q.from q.to front))
  numbered_has front q back whole =
      let P : List Passage → Type 0 = λ all. slice_get (over q.from q.to all) (count_over q.from q.to front) ≡ Some (pair_of q) in
      (over q.from q.to ps, count_over q.from q.to front, all_over q.from q.to, subst P whole (over_seam q.from q.to front q back (goes_itself q q refl)), refl)

  -- each numbered hop is that of a passage behind a front
  found_front : (before rest : List Passage) (hop : Hop) → Contains (numbered_after before rest) hop →
      (front : List Passage) × (q : Passage) × (back : List Passage) × (front ++ q ∷ back ≡ before ++ rest) × (hop_after q (count_over q.from q.to front) ≡ hop)
  found_front before [] hop h = absurd (nothing_in_nil hop h)
  found_front before (p ∷ rest) hop h = elim (Contains-cons_cases (hop_after p (count_over p.from p.to before)) (numbered_after (before ++ p ∷ []) rest) hop h) [
    | inl same ↦ (before, p, rest, refl, same)
    | inr later ↦
        let f = found_front (before ++ p ∷ []) rest hop later in
        (f.0, f.1, f.2, f.3 ∙ append_assoc before (p ∷ []) rest, f.4)
  ]

  -- and the passage behind each front has such a hop
  has_front : (before mid : List Passage) (q : Passage) (back : List Passage) → Contains (numbered_after before (mid ++ q ∷ back)) (hop_after q (count_over q.from q.to (before ++ mid)))
  has_front before [] q back =
      let P : List Passage → Type 0 = λ ys. Contains (hop_after q (count_over q.from q.to before) ∷ numbered_after (before ++ q ∷ []) back) (hop_after q (count_over q.from q.to ys)) in
      subst P (sym (append-nil before)) (Contains-here (hop_after q (count_over q.from q.to before)) (numbered_after (before ++ q ∷ []) back))
  has_front before (m ∷ mid) q back =
      let P : List Passage → Type 0 = λ ys. Contains (numbered_after (before ++ m ∷ []) (mid ++ q ∷ back)) (hop_after q (count_over q.from q.to ys)) in
      Contains-there _ _ _ (subst P (append_assoc before (m ∷ []) mid) (has_front (before ++ m ∷ []) mid q back))

  -- the pair at a place of a hop is that of a passage behind a front
  picked_front : (a b : Text) (all : List Passage) (k : ℕ) (pair : Text × Syntax) → slice_get (over a b all) k ≡ Some pair →
      (front : List Passage) × (q : Passage) × (back : List Passage) × (front ++ q ∷ back ≡ all) × (goes_over a b q ≡ true) × (pair_of q ≡ pair) × (count_over a b front ≡ k)
  unfolding over
  picked_front a b [] k pair e = absurd (none_there k e)
    where
      none_there : (k : ℕ) → slice_get {X = Text × Syntax} [] k ≡ Some pair → ⊥
      none_there k e = let n : slice_get {X = Text × Syntax} [] k ≡ None = slice_get_past [] k (omega arith) in cc (n, e)
  picked_front a b (p ∷ all) k pair e = elim (cases_Bool (goes_over a b p)) [
    | inl here ↦ first (λ n e. picked_front a b all n pair e) k (rw here at e) here
    | inr other ↦
        let f = picked_front a b all k pair (rw other at e) in
        (p ∷ f.0, f.1, f.2, ap (λ (xs : List Passage). p ∷ xs) f.3, f.4, f.5, (let none : filter (goes_over a b) (p ∷ f.0) ≡ filter (goes_over a b) f.0 = rw other refl in ap (λ (xs : List Passage). length xs) none ∙ f.6))
  ]
    where
      first : ((n : ℕ) → slice_get (map pair_of (filter (goes_over a b) all)) n ≡ Some pair →
          (front : List Passage) × (q : Passage) × (back : List Passage) × (front ++ q ∷ back ≡ all) × (goes_over a b q ≡ true) × (pair_of q ≡ pair) × (count_over a b front ≡ n)) →
          (k : ℕ) → slice_get (pair_of p ∷ map pair_of (filter (goes_over a b) all)) k ≡ Some pair → goes_over a b p ≡ true →
          (front : List Passage) × (q : Passage) × (back : List Passage) × (front ++ q ∷ back ≡ p ∷ all) × (goes_over a b q ≡ true) × (pair_of q ≡ pair) × (count_over a b front ≡ k)
      first later zero e here = ([], p, all, refl, here, same_Some _ _ (sym (at_seam [] (pair_of p) (map pair_of (filter (goes_over a b) all))) ∙ e), refl)
      first later (suc n) e here =
          let f = later n e in (
            p ∷ f.0,
            f.1,
            f.2,
            ap (λ (xs : List Passage). p ∷ xs) f.3,
            f.4,
            f.5,
            (let one : filter (goes_over a b) (p ∷ f.0) ≡ p ∷ filter (goes_over a b) f.0 = rw here refl in
                ap (λ (xs : List Passage). length xs) one ∙ ap (λ (m : ℕ). suc m) f.6),
          )

  has_hop : (hop : Hop) → HasNumber lines hop → Contains (numbered_after [] ps) hop
  has_hop hop h =
      let same : h.0 ≡ over hop.from hop.to ps = same_sorted pair_cmp pair_total h.0 (over hop.from hop.to ps) h.2.ordered (all_over hop.from hop.to).ordered
      (λ pair. (λ x. ((all_over hop.from hop.to).each pair).1 ((h.2.each pair).0 x), λ x. (h.2.each pair).1 (((all_over hop.from hop.to).each pair).0 x))) in
      let P : List (Text × Syntax) → Type 0 = λ xs. slice_get xs h.1 ≡ Some (hop.class, hop.syntax) in
      let f = picked_front hop.from hop.to ps h.1 (hop.class, hop.syntax) (subst P same h.3) in
      let q : Passage = f.1 in
      let ends = goes_from hop.from hop.to q f.4 in
      let count : count_over q.from q.to f.0 ≡ h.1 = ap (λ (x : Text). count_over x q.to f.0) ends.0 ∙ (ap (λ (x : Text). count_over hop.from x f.0) ends.1 ∙ f.6) in
      let mk : Text → Text → ℕ → Text → Syntax → Hop = λ a b n c s. record { «from» = a; «to» = b; id = n; class = c; syntax = s } in
      let is : hop_after q (count_over q.from q.to f.0) ≡ hop =
      ap (λ (n : ℕ). hop_after q n) count
      ∙ (ap (λ (x : Text). mk x q.to (2 * h.1 + 1) q.class q.syntax) ends.0
      ∙ (ap (λ (x : Text). mk hop.from x (2 * h.1 + 1) q.class q.syntax) ends.1
      ∙ (ap (λ (n : ℕ). mk hop.from hop.to n q.class q.syntax) (sym h.4)
      ∙ (ap (λ (x : Text × Syntax). mk hop.from hop.to hop.id x.0 x.1) f.5)))) in
      let Q : List Passage → Type 0 = λ all. Contains (numbered_after [] all) (hop_after q (count_over q.from q.to f.0)) in
      let R : Hop → Type 0 = λ x. Contains (numbered_after [] ps) x in
      subst R is (subst Q f.3 (has_front [] f.0 q f.2))

  -- ---- the hops are different
  back_to_passages : (before rest : List Passage) → map (λ (h : Hop). let p : Passage = record { «from» = h.from; «to» = h.to; class = h.class; syntax = h.syntax } in p) (numbered_after before rest) ≡ rest
  back_to_passages before [] = refl
  back_to_passages before (p ∷ rest) = ap (λ (xs : List Passage). p ∷ xs) (back_to_passages (before ++ p ∷ []) rest)

  passages_apart : AllPairs (λ a b. a ≢ b) ps
  passages_apart i j d lt h same =
      let less : passage_cmp (get_or ps i d) (get_or ps j d) ≡ Less = Less-from_sorted passage_cmp ps i j d are.ordered lt h in
      let tied : passage_cmp (get_or ps j d) (get_or ps j d) ≡ Equal = tied_itself passage_laws.total-law (get_or ps j d) in
      let e : Less ≡ Equal = sym less ∙ (ap (λ (x : Passage). passage_cmp x (get_or ps j d)) same ∙ tied) in
      cc e

  hops_apart : AllPairs (λ a b. a ≢ b) (numbered_after [] ps)
  hops_apart =
      let P : List Passage → Type 0 = λ xs. AllPairs (λ a b. a ≢ b) xs in
      unmap_apart (λ (h : Hop). let p : Passage = record { «from» = h.from; «to» = h.to; class = h.class; syntax = h.syntax } in p) (numbered_after [] ps)
      (subst P (sym (back_to_passages [] ps)) passages_apart)

  over_length : (a b : Text) (front : List Passage) → length (over a b front) ≡ count_over a b front
  unfolding over
  over_length a b front = length-map (filter (goes_over a b) front) pair_of

  -- ---- a hop with too many pairs
  too_many : (a b : Text) (front rest : List Passage) → ps ≡ front ++ rest → count_over a b front ≡ 129 → AreTooMany lines a b
  too_many a b front rest is count =
      let within : (p : Passage) → Contains front p → Contains ps p = λ p h. let P : List Passage → Type 0 = λ xs. Contains xs p in subst P (sym is) (Contains-append_left front rest p h) in
      let sorted : AllPairs (λ p q. passage_cmp p q ≡ Less) front = λ i j d lt h.
      let Q : List Passage → Type 0 = λ xs. AllPairs (λ p q. passage_cmp p q ≡ Less) xs in
      let whole : AllPairs (λ p q. passage_cmp p q ≡ Less) (front ++ rest) = subst Q is (sorted_pairs ps are.ordered) in
      let in_i : get_or (front ++ rest) i d ≡ get_or front i d = get_or_append_left front rest d i (omega arith) in
      let in_j : get_or (front ++ rest) j d ≡ get_or front j d = get_or_append_left front rest d j h in
      let longer : j < length (front ++ rest) = (let e = length-append front rest in omega (arith, e, h)) in
      ap (λ (x : Passage). passage_cmp x (get_or front j d)) (sym in_i) ∙ (ap (λ (x : Passage). passage_cmp (get_or (front ++ rest) i d) x) (sym in_j) ∙ whole i j d lt longer) in
      let ordered = over_ordered a b front sorted in (
        over a b front,
        (λ i j d lt h same.
            let less : pair_cmp (get_or (over a b front) i d) (get_or (over a b front) j d) ≡ Less = ordered i j d lt h in
            let tied : pair_cmp (get_or (over a b front) j d) (get_or (over a b front) j d) ≡ Equal = tied_itself pair_total (get_or (over a b front) j d) in
            let e : Less ≡ Equal = sym less ∙ (ap (λ (x : Text × Syntax). pair_cmp x (get_or (over a b front) j d)) same ∙ tied) in
            cc e),
        all_from_each (OverHop lines a b) (over a b front) (λ pair h. over_shown a b front within pair h),
        over_length a b front ∙ count,
      )

  -- no hop before that of the passage q, which is behind the front, has more pairs than it has in front
  none_before : (front : List Passage) (q : Passage) (rest : List Passage) → ps ≡ front ++ q ∷ rest → ((c d : Text) → count_over c d front ≤ 128) →
      (c d : Text) → AreTooMany lines c d → hop_cmp (c, d) (q.from, q.to) ≢ Less
  none_before front q rest is few c d many less =
      let Q : List Passage → Type 0 = λ xs. AllPairs (λ x y. passage_cmp x y ≡ Less) xs in
      let behind : AllPairs (λ x y. passage_cmp x y ≡ Less) (q ∷ rest) = suffix_sorted passage_cmp front (q ∷ rest) (subst Q is (sorted_pairs ps are.ordered)) in
      let none : count_over c d (q ∷ rest) ≡ 0 = count_none c d (q ∷ rest) (λ x among goes.
      let ends = goes_from c d x goes in
      let P : Text → Type 0 = λ t. hop_cmp (t, d) (q.from, q.to) ≡ Less in
      let R : Text → Type 0 = λ t. hop_cmp (x.from, t) (q.from, q.to) ≡ Less in
      let before : hop_cmp (x.from, x.to) (q.from, q.to) ≡ Less = subst R (sym ends.1) (subst P (sym ends.0) less) in
      elim (Contains-cons_cases q rest x among) [
        | inl same ↦ (let S : Passage → Type 0 = λ y. hop_cmp (y.from, y.to) (q.from, q.to) ≡ Less in not_before_itself q (subst S (sym same) before))
        | inr later ↦ not_before q x (head_below passage_cmp q rest behind x later) before
      ]) in
      let sum : count_over c d ps ≡ count_over c d front + count_over c d (q ∷ rest) = ap (λ (xs : List Passage). count_over c d xs) is ∙ count_parts c d front (q ∷ rest) in
      let long : length many.0 ≤ length (over c d ps) = no_more_than (over c d ps) many.0 many.1 (λ k y h. over_has c d (get_or many.0 k y) (many.2 k y h)) in
      let e : length (over c d ps) ≡ count_over c d ps = over_length c d ps in
      let n : length many.0 ≡ 129 = many.3 in
      let f : count_over c d front ≤ 128 = few c d in
      omega (arith, long, e, n, f, sum, none)

  pub are_numbered : (result : Numbered) → NumbersAll ps result → Numbers lines result
  are_numbered (numbered.Hops hops) all =
      let P : List Hop → Type 0 = λ hs. AreNumbered lines hs in
      subst P (sym all.0) (record {
        each = λ hop. (
          λ h. (let f = found_front [] ps hop h in let R : Hop → Type 0 = λ x. HasNumber lines x in subst R f.4 (numbered_has f.0 f.1 f.2 f.3)),
          has_hop hop,
        );
        apart = hops_apart;
        few = λ a b. (over a b ps, all_over a b, (let e = over_length a b ps in let few = all.1 a b in omega arith));
      })
  are_numbered (numbered.TooMany a b) all =
      let front : List Passage = all.0 in
      let q : Passage = all.1 in
      let rest : List Passage = all.2 in
      let is : ps ≡ front ++ q ∷ rest = all.3 in
      let P : Text → Type 0 = λ z. count_over z b front ≡ 128 in
      let Q : Text → Type 0 = λ z. count_over q.from z front ≡ 128 in
      let own : count_over q.from q.to front ≡ 128 = subst Q (sym all.5) (subst P (sym all.4) all.6) in
      let R : Text → Type 0 = λ z. count_over z b (front ++ q ∷ []) ≡ 129 in
      let S : Text → Type 0 = λ z. count_over q.from z (front ++ q ∷ []) ≡ 129 in
      let full : count_over a b (front ++ q ∷ []) ≡ 129 = subst R all.4 (subst S all.5 (one_over q front 128 own)) in
      let F : Text → Type 0 = λ z. (c d : Text) → AreTooMany lines c d → hop_cmp (c, d) (z, b) ≢ Less in
      let T : Text → Type 0 = λ z. (c d : Text) → AreTooMany lines c d → hop_cmp (c, d) (q.from, z) ≢ Less in (
        too_many a b (front ++ q ∷ []) rest (is ∙ sym (append_assoc front (q ∷ []) rest)) full,
        subst F all.4 (subst T all.5 (none_before front q rest is all.7)),
      )
