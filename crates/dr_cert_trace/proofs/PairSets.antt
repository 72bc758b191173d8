-- Sets of pairs of names.
use Rattle.std.proofs.Common.{◌≡◌, ℕ, ◌+◌, ◌<◌, ◌⊎◌, ◌↔◌, inl, inr, refl, sym, ap, subst, ◌∙◌, true, List, [], ◌∷◌, ◌++◌, length, get_or, take, Contains, IsTrue}
use Rattle.std.specs.BTreeSet.{BTreeSet, contains, Updates}
use Rattle.std.specs.BTreeMap.{is_at}
use Rattle.std.specs.declared.cmp.Ordering.{Ordering}
use Rattle.std.specs.Ordering.{ordering_then}
use Rattle.std.proofs.lemmas.Map.Lookups.{CmpEqualImpliesEq, exact_pairs, exact_bytes}
use Rattle.std.proofs.lemmas.Map.Views.{btree_set_contains_iff, tells_apart}
use Rattle.std.proofs.lemmas.Cmp.{nat_list_cmp_total, on_total, then_total}
use Rattle.std.specs.Cmp.{IsTotalOrder}
use Rattle.std.proofs.lemmas.Bool.{cases_Bool}
use Rattle.std.proofs.lemmas.List.{take_more}
use Rattle.std.proofs.lemmas.List.Elements.{Contains-push_cases, Contains-push, Contains-append_left}
use Rattle.dr_base.specs.Texts.{Text, text_cmp}
use Rattle.dr_plan_model.proofs.Gathered.{nothing_in_nil}
use Rattle.dr_cert_trace.specs.Found.{HasPair, AddsPairs}

abbrev pub pair_cmp : Text × Text → Text × Text → Ordering
pair_cmp a b = ordering_then (text_cmp a.0 b.0) (text_cmp a.1 b.1)

total : IsTotalOrder pair_cmp
total = then_total (on_total (λ (p : Text × Text). p.0) nat_list_cmp_total) (on_total (λ (p : Text × Text). p.1) nat_list_cmp_total)

exact : CmpEqualImpliesEq pair_cmp
exact = exact_pairs text_cmp text_cmp exact_bytes exact_bytes

pub members : (s : BTreeSet (Text × Text)) (p : Text × Text) → IsTrue (contains pair_cmp s p) ↔ HasPair s p
members s p = btree_set_contains_iff total exact s p

-- one pair more
pub one_more : (s n : BTreeSet (Text × Text)) (k : Text × Text) → Updates pair_cmp s n k true → (p : Text × Text) → HasPair n p ↔ (HasPair s p ⊎ (p ≡ k))
one_more s n k h p = (
  λ had. elim (cases_Bool (is_at (pair_cmp k) p)) [
    | inl here ↦ inr (sym (tells_apart exact k p here))
    | inr apart ↦ inl ((members s p).0 (sym (h.2 p apart) ∙ (members n p).1 had))
  ],
  λ given. elim given [
    | inl had ↦ (members n p).0 (h.0 p ∙ elim (cases_Bool (is_at (pair_cmp k) p)) [ inl here ↦ rw here refl | inr apart ↦ rw apart ((members s p).1 had) ])
    | inr same ↦ subst (HasPair n) (sym same) ((members n k).0 h.1)
  ],
)

same_pair : (p k : Text × Text) → p.0 ≡ k.0 → p.1 ≡ k.1 → p ≡ k
same_pair p k a b = λ i. (a i, b i)

-- a pair more, of these two names
pub adds : (s n : BTreeSet (Text × Text)) (from to : Text) → ((p : Text × Text) → HasPair n p ↔ (HasPair s p ⊎ (p ≡ (from, to)))) → AddsPairs s n from (λ name. name ≡ to)
adds s n from to h p = (
  λ had. elim ((h p).0 had) [ inl before ↦ inl before | inr same ↦ inr (ap (λ (q : Text × Text). q.0) same, ap (λ (q : Text × Text). q.1) same) ],
  λ given. elim given [ inl before ↦ (h p).1 (inl before) | inr same ↦ (h p).1 (inr (same_pair p (from, to) same.0 same.1)) ],
)

-- it is there already
pub has_already : (s : BTreeSet (Text × Text)) (from to : Text) → HasPair s (from, to) → AddsPairs s s from (λ name. name ≡ to)
has_already s from to has p = (
  λ had. inl had,
  λ given. elim given [ inl before ↦ before | inr same ↦ subst (HasPair s) (sym (same_pair p (from, to) same.0 same.1)) has ],
)

pub none_more : (s : BTreeSet (Text × Text)) (from : Text) → AddsPairs s s from (λ name. Contains [] name)
none_more s from p = (λ had. inl had, λ given. elim given [ inl before ↦ before | inr more ↦ absurd (nothing_in_nil p.1 more.1) ])

-- the pairs with those so far, and one more
pub go_on : (s l n : BTreeSet (Text × Text)) (from : Text) (all : List Text) (i : ℕ) (to : Text) → i < length all → to ≡ get_or all i to →
    AddsPairs s l from (λ name. Contains (take i all) name) → AddsPairs l n from (λ name. name ≡ to) → AddsPairs s n from (λ name. Contains (take (i + 1) all) name)
go_on s l n from all i to h at so_far more p =
    let pushed : take (i + 1) all ≡ take i all ++ to ∷ [] = take_more all i to h ∙ ap (λ (x : Text). take i all ++ x ∷ []) (sym at) in (
      λ had. elim ((more p).0 had) [
        | inl before ↦ elim ((so_far p).0 before) [
          | inl x ↦ inl x
          | inr x ↦ inr (x.0, subst (λ (xs : List Text). Contains xs p.1) (sym pushed) (Contains-append_left (take i all) (to ∷ []) p.1 x.1))
        ]
        | inr same ↦ inr (same.0, subst (λ (xs : List Text). Contains xs p.1) (sym pushed) (subst (λ (x : Text). Contains (take i all ++ to ∷ []) x) (sym same.1) (Contains-push (take i all) to)))
      ],
      λ given. elim given [
        | inl x ↦ (more p).1 (inl ((so_far p).1 (inl x)))
        | inr x ↦ elim (Contains-push_cases (take i all) to p.1 (subst (λ (xs : List Text). Contains xs p.1) pushed x.1)) [
          | inl y ↦ (more p).1 (inl ((so_far p).1 (inr (x.0, y))))
          | inr same ↦ (more p).1 (inr (x.0, sym same))
        ]
      ],
    )
