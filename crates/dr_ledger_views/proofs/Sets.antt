-- How many elements a set has that is listed.
use Rattle.std.proofs.Common.{◌≡◌, ◌+◌, ◌||◌, ℕ, suc, List, [], ◌∷◌, length, Bool, true, false, cond, refl, sym, ap, ◌∙◌, arith}
use Rattle.std.specs.declared.cmp.Ordering.{Ordering}
use Rattle.std.specs.declared.cmp.Ordering.TheVariants.{Less, Equal, Greater}
use Rattle.std.specs.Ordering.{eq_by_cmp, is_eq}
use Rattle.std.specs.Cmp.{IsTotalOrder}
use Rattle.std.specs.FinMap.{IsAntisymmetric}
use Rattle.std.specs.FinSet as set
use Rattle.std.specs.FinSet.{FinSet}
use Rattle.std.specs.List.{AllByRecursion, IsDistinct, list_any}
use Rattle.std.proofs.lemmas.Cmp.{eq_by_cmp_equiv}
use Rattle.std.proofs.lemmas.Map.Keys.{IsDistinct-from_sorted, IsDistinct-head, IsDistinct-tail}
use Rattle.std.proofs.lemmas.Map.Views.{Contains-from_any, list_any-from_Contains}
use Rattle.dr_ledger.specs.Replies.{Lists}

plus_one : (a b : ℕ) → a ≡ b → a + 1 ≡ suc b
plus_one a b e = omega (arith, e)

equal_is : (o : Ordering) → is_eq o ≡ true → o ≡ Equal
equal_is Less h = absurd cc
equal_is Equal h = refl
equal_is Greater h = absurd cc

same_bool : (a b : Bool) → (a ≡ true → b ≡ true) → (b ≡ true → a ≡ true) → a ≡ b
same_bool true b f g = sym (f refl)
same_bool false true f g = g refl
same_bool false false f g = refl

none_such : {K : Type 0} (R : K → K → Ordering) (k : K) (ks : List K) → AllByRecursion (λ y. eq_by_cmp R k y ≡ false) ks → list_any (eq_by_cmp R k) ks ≡ false
none_such R k [] h = refl
none_such R k (x ∷ ks) h = ap (λ b. b || list_any (eq_by_cmp R k) ks) h.0 ∙ none_such R k ks h.1

module _ {K : Type 0} {R : K → K → Ordering} (total : IsTotalOrder R) where
  pub set_of_apart : (ks : List K) → IsDistinct (eq_by_cmp R) ks → set.len (set.from_list {R = R} ks) ≡ length ks
  set_of_apart [] apart = set.len-empty R
  set_of_apart (k ∷ ks) apart =
      let later = set_of_apart ks (IsDistinct-tail (eq_by_cmp R) k ks apart) in
      let new : set.contains (set.from_list {R = R} ks) k ≡ false = set.contains-from_list total ks k ∙ none_such R k ks (IsDistinct-head (eq_by_cmp R) k ks apart) in
      set.len-insert total (set.from_list ks) k ∙ ap (λ b. cond b (set.len (set.from_list {R = R} ks)) (set.len (set.from_list {R = R} ks) + 1)) new ∙ plus_one _ _ later

module _ {K : Type 0} {R : K → K → Ordering} (total : IsTotalOrder R) (exact : IsAntisymmetric R) where
  -- a list of a set has as many elements
  pub set_listed : (s : FinSet R) (all : List K) → Lists R s all → set.len s ≡ length all
  set_listed s all l =
      ap set.len (set.same_set total exact s (set.from_list all) (λ q. same_bool (set.contains s q) (set.contains (set.from_list {R = R} all) q)
      (λ h. set.contains-from_list total all q ∙ list_any-from_Contains (eq_by_cmp_equiv total) q all ((l.each q).1 h))
      (λ h. (l.each q).0 (Contains-from_any (λ a b tied. exact a b (equal_is (R a b) tied)) q all (sym (set.contains-from_list total all q) ∙ h)))))
      ∙ set_of_apart total all (IsDistinct-from_sorted R all l.ordered)
