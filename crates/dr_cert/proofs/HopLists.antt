-- Hops as sets of pairs with their ids, and the hops that lines show.
use Rattle.std.proofs.Common.{◌≡◌, ℕ, ◌<◌, ◌≤◌, ◌⊎◌, inl, inr, refl, sym, ◌∙◌, ap, subst, List, [], ◌∷◌, ◌++◌, length, get_or, Contains, true, false, arith}
use Rattle.std.specs.Prelude.{◌↔◌, IsTrue, Bool}
use Rattle.std.specs.declared.cmp.Ordering.{Ordering}
use Rattle.std.specs.declared.cmp.Ordering.TheVariants.{Equal}
use Rattle.std.specs.Ordering.{nat_cmp, MatchOrdering}
use Rattle.std.specs.BTreeSet.{BTreeSet, Updates, contains}
use Rattle.std.specs.BTreeMap.{is_at}
use Rattle.std.specs.Cmp.{Equal-is, ranks}
use Rattle.std.proofs.lemmas.Bool.{cases_Bool, false≢true}
use Rattle.std.proofs.lemmas.List.Elements.{Contains-push, Contains-push_cases, Contains-append_left}
use Rattle.std.proofs.lemmas.Map.Views.{btree_set_contains_iff}
use Rattle.dr_plan_model.specs.Networks.{Network}
use Rattle.dr_plan_model.specs.Plans.{IsWellFormed}
use Rattle.dr_plan_model.proofs.Gathered.{nothing_in_nil}
use Rattle.dr_plan_sound.specs.declared.certificate.Line.{Line}
use Rattle.dr_plan_sound.specs.declared.certificate.Hop.{Hop}
use Rattle.dr_plan_sound.specs.Certificates.{HasHop}
use Rattle.dr_plan_sound.specs.HopPairs.{HasNumber, AreNumbered, AreTooMany}
use Rattle.dr_plan_sound.specs.Ranked.{AreRanked}
use Rattle.dr_plan_sound.proofs.Hopping.{hop_pairs, over_hop, over_goes, sound_by_lines}
use Rattle.dr_cert_hops.specs.Numbering.{passage_cmp}
use Rattle.dr_cert_hops.proofs.Keys.{then_equal, passage_exact}
use Rattle.dr_cert_hops.specs.declared.hops.Passage.{Passage}
use Rattle.dr_cert.specs.Conditions.{HasRightHops}
use Rattle.dr_cert.specs.HopSets.{numbered, numbered_cmp, AreTheNumbered}
use Rattle.dr_cert.specs.declared.hop_list.NumberedPassage.{NumberedPassage}
use Rattle.dr_cert.specs.contracts.hop_list.NumberedPassageOrd.TheImpl.Laws as laws
use Rattle.dr_base.specs.Texts.{Text}

same_number : (a b : ℕ) → nat_cmp a b ≡ Equal → a ≡ b
same_number a b e = let P : Ordering → Type 0 = λ o. MatchOrdering o (a < b) (a ≡ b) (b < a) in subst P e (ranks a b)

numbered_exact : (a b : NumberedPassage) → numbered_cmp a b ≡ Equal → a ≡ b
numbered_exact a b e =
    let both = then_equal (passage_cmp a.passage b.passage) (nat_cmp a.id b.id) e in
    let mk : Passage → ℕ → NumberedPassage = λ p i. record { passage = p; id = i } in
    ap (λ (p : Passage). mk p a.id) (passage_exact a.passage b.passage both.0) ∙ ap (λ (i : ℕ). mk b.passage i) (same_number a.id b.id both.1)

hop_of : NumberedPassage → Hop
hop_of n = record { «from» = n.passage.from; «to» = n.passage.to; id = n.id; class = n.passage.class; syntax = n.passage.syntax }

same_hop : (a b : Hop) → numbered a ≡ numbered b → a ≡ b
unfolding hop_of
same_hop a b e = ap hop_of e

pub in_set : (s : BTreeSet NumberedPassage) (k : NumberedPassage) → IsTrue (contains numbered_cmp s k) ↔ Contains s.keys k
in_set s k = btree_set_contains_iff laws.total-law numbered_exact s k

added : (s n : BTreeSet NumberedPassage) (k : NumberedPassage) → Updates numbered_cmp s n k true → (m : NumberedPassage) → Contains n.keys m ↔ (Contains s.keys m ⊎ (k ≡ m))
added s n k h m = (
  λ had. elim (cases_Bool (is_at (numbered_cmp k) m)) [
    | inl here ↦ inr (numbered_exact k m ((Equal-is (numbered_cmp k m)).0 here))
    | inr apart ↦ inl ((in_set s m).0 (sym (h.2 m apart) ∙ (in_set n m).1 had))
  ],
  λ had. elim had [
    | inl before ↦ (in_set n m).0 (h.0 m ∙ elim (cases_Bool (is_at (numbered_cmp k) m)) [
      | inl here ↦ rw here refl
      | inr apart ↦ rw apart ((in_set s m).1 before)
    ])
    | inr same ↦
        let P : NumberedPassage → Type 0 = λ x. Contains n.keys x in
        subst P same ((in_set n k).0 h.1)
  ],
)

pub numbered_none : (s : BTreeSet NumberedPassage) → s.keys ≡ [] → AreTheNumbered [] s
numbered_none s empty hop = (
  (λ h. let P : List NumberedPassage → Type 0 = λ ks. Contains ks (numbered hop) in absurd (nothing_in_nil (numbered hop) (subst P empty h))),
  (λ h. absurd (nothing_in_nil hop h)),
)

pub numbered_more : (hops : List Hop) (hop : Hop) (s n : BTreeSet NumberedPassage) → AreTheNumbered hops s → Updates numbered_cmp s n (numbered hop) true → AreTheNumbered (hops ++ hop ∷ []) n
numbered_more hops hop s n so_far updates other = (
  (λ had. elim ((added s n (numbered hop) updates (numbered other)).0 had) [
    | inl before ↦ Contains-append_left hops (hop ∷ []) other ((so_far other).0 before)
    | inr same ↦ (let P : Hop → Type 0 = λ h. Contains (hops ++ hop ∷ []) h in subst P (same_hop hop other same) (Contains-push hops hop))
  ]),
  (λ among. (added s n (numbered hop) updates (numbered other)).1 (elim (Contains-push_cases hops hop other among) [
    | inl before ↦ inl ((so_far other).1 before)
    | inr same ↦ inr (ap numbered same)
  ])),
)

-- ---- the hops of a plan
number_is_hop : (plan : Network) → IsWellFormed plan → (lines : List Line) → AreRanked plan lines → (hop : Hop) → HasNumber lines hop ↔ HasHop plan hop
number_is_hop plan formed lines all hop = (
  (λ h. (h.0, h.1, hop_pairs plan formed lines all hop.from hop.to h.0 h.2, h.3, h.4)),
  (λ h. (h.0, h.1, over_hop plan formed lines all hop.from hop.to h.0 h.2, h.3, h.4)),
)

pub right_hops : (lines : List Line) (hops listed : List Hop) (b : Bool) → AreNumbered lines listed → (IsTrue b ↔ ((hop : Hop) → Contains hops hop ↔ Contains listed hop)) →
    (plan : Network) → IsWellFormed plan → AreRanked plan lines → IsTrue b ↔ HasRightHops plan hops
right_hops lines hops listed b are same plan formed all = (
  (λ h. (
    (sound_by_lines plan formed lines all are.few).few_pairs,
    (λ hop.
        let s = (same.0 h) hop in
        let n = number_is_hop plan formed lines all hop in
        (λ among. n.0 ((are.each hop).0 (s.0 among)), λ has. s.1 ((are.each hop).1 (n.1 has)))),
  )),
  (λ right. same.1 (λ hop.
      let r = right.1 hop in
      let n = number_is_hop plan formed lines all hop in
      (λ among. (are.each hop).1 (n.1 (r.0 among)), λ there. r.1 (n.0 ((are.each hop).0 there))))),
)

pub too_many : (lines : List Line) (hops : List Hop) (from to : Text) → AreTooMany lines from to → (plan : Network) → IsWellFormed plan → AreRanked plan lines → IsTrue false ↔ HasRightHops plan hops
too_many lines hops from to many plan formed all = (
  (λ h. absurd (false≢true h)),
  (λ right.
      let few : length many.0 ≤ 128 = right.0 from to many.0 many.1 (λ k d h. over_goes plan formed lines all from to (get_or many.0 k d) (many.2 k d h)) in
      let long : length many.0 ≡ 129 = many.3 in
      absurd (omega arith)),
)
