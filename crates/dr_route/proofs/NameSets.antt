-- Sets of names.
use Rattle.std.proofs.Common.{◌≡◌, ℕ, ◌+◌, ◌<◌, ◌⊎◌, ◌↔◌, inl, inr, refl, sym, ◌∙◌, true, List, [], ◌∷◌, ◌++◌, length, get_or, take, Contains, IsTrue, nat_cmp, arith}
use Rattle.std.specs.BTreeSet.{BTreeSet, contains, Updates}
use Rattle.std.specs.BTreeMap.{is_at}
use Rattle.std.specs.Cmp.Lexicographic.{slice_cmp, nat_list_cmp_total}
use Rattle.std.proofs.lemmas.Map.Lookups.{exact_bytes}
use Rattle.std.proofs.lemmas.Map.Views.{btree_set_contains_iff}
use Rattle.std.proofs.lemmas.Map.Text.{is_eq-slice_cmp}
use Rattle.std.proofs.lemmas.Slice.Eq.{bytes_eq-Decides}
use Rattle.std.proofs.lemmas.Bool.{cases_Bool}
use Rattle.std.proofs.lemmas.List.{get_or_default, take_more}
use Rattle.std.proofs.lemmas.List.Elements.{Contains-push_cases, Contains-push, Contains-append_left}
use Rattle.dr_base.specs.Texts.{Text}
use Rattle.dr_route.specs.Names.{HasName, AddsName}

pub none_of_them : (xs : List Text) (v : Text) (n : ℕ) → n ≡ length xs → ((k : ℕ) → k < n → get_or xs k [] ≡ v → ⊥) → Contains xs v → ⊥
none_of_them xs v n all none among =
    let lt : among.0 < length xs = among.1 in
    none among.0 (omega arith) (get_or_default xs among.0 [] v lt ∙ among.2)

pub members : (s : BTreeSet Text) (m : Text) → IsTrue (contains (slice_cmp nat_cmp) s m) ↔ HasName s m
members s m = btree_set_contains_iff nat_list_cmp_total exact_bytes s m

at_same : (k m : Text) → is_at (slice_cmp nat_cmp k) m ≡ true → k ≡ m
at_same k m e = (bytes_eq-Decides k m).0 (sym (is_eq-slice_cmp k m) ∙ e)

pub has_already : (s : BTreeSet Text) (k : Text) → HasName s k → AddsName s s k
has_already s k has = record { kept = λ m had. had; added = has; only = λ m had. inl had }

pub adds : (s n : BTreeSet Text) (k : Text) → Updates (slice_cmp nat_cmp) s n k true → AddsName s n k
adds s n k h = record {
  kept = λ m had. (members n m).0 (h.0 m ∙ elim (cases_Bool (is_at (slice_cmp nat_cmp k) m)) [
    | inl here ↦ rw here refl
    | inr apart ↦ rw apart ((members s m).1 had)
  ]);
  added = (members n k).0 h.1;
  only = λ m had. elim (cases_Bool (is_at (slice_cmp nat_cmp k) m)) [
    | inl here ↦ inr (at_same k m here)
    | inr apart ↦ inl ((members s m).0 (sym (h.2 m apart) ∙ (members n m).1 had))
  ];
}

-- the names so far, and one more
pub one_more : (first s n : BTreeSet Text) (more : List Text) (i : ℕ) (k : Text) → i < length more → k ≡ get_or more i k → AddsName s n k →
    ((m : Text) → HasName s m ↔ (HasName first m ⊎ Contains (take i more) m)) → (m : Text) → HasName n m ↔ (HasName first m ⊎ Contains (take (i + 1) more) m)
one_more first s n more i k h at a so_far m =
    let pushed : take (i + 1) more ≡ take i more ++ k ∷ [] = let e = take_more more i k h in rw (← at) at e in (
      λ had. elim (a.only m had) [
        | inl before ↦ elim ((so_far m).0 before) [
          | inl x ↦ inl x
          | inr x ↦ inr (rw pushed (Contains-append_left (take i more) (k ∷ []) m x))
        ]
        | inr same ↦ inr (rw (pushed, ← same) (Contains-push (take i more) k))
      ],
      λ given. elim given [
        | inl x ↦ a.kept m ((so_far m).1 (inl x))
        | inr x ↦ elim (Contains-push_cases (take i more) k m (rw pushed at x)) [
          | inl y ↦ a.kept m ((so_far m).1 (inr y))
          | inr same ↦ rw (← same) a.added
        ]
      ],
    )

-- a rule that holds is counted
pub counted_in : {N A H B R G : Type 0} → H → (N ↔ (A ⊎ B)) → ((A ⊎ ((H × B) ⊎ R)) ↔ G) → ((N ⊎ R) ↔ G)
counted_in h n so_far = (
  λ x. elim x [
    | inl y ↦ elim (n.0 y) [ inl a ↦ so_far.0 (inl a) | inr b ↦ so_far.0 (inr (inl (h, b))) ]
    | inr r ↦ so_far.0 (inr (inr r))
  ],
  λ g. elim (so_far.1 g) [
    | inl a ↦ inl (n.1 (inl a))
    | inr y ↦ elim y [ inl hb ↦ inl (n.1 (inr hb.1)) | inr r ↦ inr r ]
  ],
)

-- a rule that doesn't hold is passed over
pub passed_over : {A H B R G : Type 0} → (H → ⊥) → ((A ⊎ ((H × B) ⊎ R)) ↔ G) → ((A ⊎ R) ↔ G)
passed_over fails so_far = (
  λ x. elim x [ inl a ↦ so_far.0 (inl a) | inr r ↦ so_far.0 (inr (inr r)) ],
  λ g. elim (so_far.1 g) [
    | inl a ↦ inl a
    | inr y ↦ elim y [ inl hb ↦ absurd (fails hb.0) | inr r ↦ inr r ]
  ],
)
