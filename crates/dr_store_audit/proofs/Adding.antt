-- Uids that are added.
use Rattle.std.proofs.Common.{◌≡◌, ◌⊎◌, inl, inr, List, ◌∷◌, Contains, Result, Ok, Err, OnOk, true, sym, ap, subst, ◌∙◌}
use Rattle.std.specs.Prelude.{◌↔◌}
use Rattle.std.specs.FinSet as set
use Rattle.std.specs.FinSet.{FinSet}
use Rattle.dr_base.specs.Texts.{Text, text_cmp}
use Rattle.dr_plan_model.proofs.Gathered.{Contains-cons_cases, Contains-here, Contains-there}
use Rattle.dr_ledger.specs.declared.item.Progress.{Progress}
use Rattle.dr_ledger.specs.Books.{is_queued}
use Rattle.dr_ledger.specs.Pairs.{Pair}
use Rattle.dr_ledger.proofs.Maps.{contained, contains_new, still_contains, texts}
use Rattle.dr_store_audit.specs.Needs.{IsOpenIn}

-- what a set with one more has
pub one_more : (s n : FinSet text_cmp) (k : Text) → n ≡ set.insert s k → (q : Text) → (set.contains n q ≡ true) ↔ ((set.contains s q ≡ true) ⊎ (q ≡ k))
one_more s n k is q = (
  λ h. elim (contained texts s k q (sym (ap (λ x. set.contains x q) is) ∙ h)) [ inl same ↦ inr same | inr was ↦ inl was ],
  λ h. elim h [
    | inl was ↦ ap (λ x. set.contains x q) is ∙ still_contains texts s k q was
    | inr same ↦ ap (λ x. set.contains x q) is ∙ ap (set.contains (set.insert s k)) same ∙ contains_new texts s k
  ],
)

pub added_open : {E : Type 0} (r : Result (Unit {0}) E) (s n : FinSet text_cmp) (row : Pair × Progress) → is_queued row.1 ≡ true → OnOk r (n ≡ set.insert s row.0.0)
    → OnOk r ((uid : Text) → (set.contains n uid ≡ true) ↔ ((set.contains s uid ≡ true) ⊎ ((uid ≡ row.0.0) × (is_queued row.1 ≡ true))))
added_open (Ok done) s n row unfinished is = λ uid.
    let it = one_more s n row.0.0 is uid in (
      λ h. elim (it.0 h) [ inl was ↦ inl was | inr same ↦ inr (same, unfinished) ],
      λ h. elim h [ inl was ↦ it.1 (inl was) | inr new ↦ it.1 (inr new.0) ],
    )
added_open (Err e) s n row unfinished is = tt

-- one of those that are left is added
pub moved_over : {A B C X A' B' : Type 0} → ((A ⊎ B) ↔ C) → (A' ↔ (A ⊎ X)) → (B ↔ (X ⊎ B')) → ((A' ⊎ B') ↔ C)
moved_over all new left = (
  λ h. elim h [
    | inl a ↦ elim (new.0 a) [ inl was ↦ all.0 (inl was) | inr x ↦ all.0 (inr (left.1 (inl x))) ]
    | inr b ↦ all.0 (inr (left.1 (inr b)))
  ],
  λ c. elim (all.1 c) [
    | inl a ↦ inl (new.1 (inl a))
    | inr b ↦ elim (left.0 b) [ inl x ↦ inl (new.1 (inr x)) | inr later ↦ inr later ]
  ],
)

pub first_kept : (k : Text) (ks : List Text) (q : Text) → Contains (k ∷ ks) q ↔ ((q ≡ k) ⊎ Contains ks q)
first_kept k ks q = (
  λ h. elim (Contains-cons_cases k ks q h) [ inl same ↦ inl (sym same) | inr later ↦ inr later ],
  λ h. elim h [ inl same ↦ subst (Contains (k ∷ ks)) (sym same) (Contains-here k ks) | inr later ↦ Contains-there k ks q later ],
)

pub first_open : (r : Pair × Progress) (rs : List (Pair × Progress)) (q : Text) → IsOpenIn (r ∷ rs) q ↔ (((q ≡ r.0.0) × (is_queued r.1 ≡ true)) ⊎ IsOpenIn rs q)
first_open r rs q = (
  λ h. elim (Contains-cons_cases r rs ((q, h.0), h.1) h.2) [
    | inl same ↦ inl (sym (ap (λ (x : Pair × Progress). x.0.0) same), ap (λ (x : Pair × Progress). is_queued x.1) same ∙ h.3)
    | inr later ↦ inr (h.0, h.1, later, h.3)
  ],
  λ h. elim h [
    | inl new ↦ (r.0.1, r.1, subst (λ u. Contains (r ∷ rs) ((u, r.0.1), r.1)) (sym new.0) (Contains-here r rs), new.1)
    | inr o ↦ (o.0, o.1, Contains-there r rs ((q, o.0), o.1) o.2, o.3)
  ],
)
