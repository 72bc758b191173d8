-- Lists in the order of their keys that make the same map, or the same set, are the same.
use Rattle.std.proofs.Common.{◌≡◌, Bool, true, false, ◌&&◌, T, List, [], ◌∷◌, Option, None, Some, is_some, map as mapped, refl, sym, ap, subst, ◌∙◌, true≢false}
use Rattle.std.specs.declared.cmp.Ordering.{Ordering}
use Rattle.std.specs.declared.cmp.Ordering.TheVariants.{Less}
use Rattle.std.specs.Ordering.{eq_by_cmp, is_lt}
use Rattle.std.specs.FinMap as map
use Rattle.std.specs.FinMap.{find, is_sorted}
use Rattle.std.specs.FinMap.Entries.{below_all, is_some-find, same_entries}
use Rattle.std.specs.FinSet as set
use Rattle.std.specs.List.{AllByRecursion, list_any}
use Rattle.std.specs.List.Sorted.{IsStrictlySortedBy}
use Rattle.std.specs.Map.{keys_of}
use Rattle.dr_ledger.proofs.Maps.{IsExact}

less_T : (o : Ordering) → o ≡ Less → T (is_lt o)
less_T o e = subst (λ (r : Ordering). T (is_lt r)) (sym e) tt

both_T : (a b : Bool) → T a → T b → T (a && b)
both_T true b s t = t
both_T false b s t = absurd s

one_unit : (a b : Option (Unit {0})) → is_some a ≡ is_some b → a ≡ b
one_unit None None h = refl
one_unit (Some x) (Some y) h = refl
one_unit None (Some y) h = absurd (true≢false (sym h))
one_unit (Some x) None h = absurd (true≢false h)

abbrev marked : {K : Type 0} → List K → List (K × Unit {0})
marked [] = []
marked (k ∷ ks) = (k, tt) ∷ marked ks

keys_marked : {K : Type 0} (ks : List K) → keys_of (marked ks) ≡ ks
keys_marked [] = refl
keys_marked (k ∷ ks) = ap (λ rest. k ∷ rest) (keys_marked ks)

module _ {K : Type 0} {R : K → K → Ordering} (e : IsExact R) where
  module _ {X : Type 0} where
    below_is : (x : K) (es : List (K × X)) → AllByRecursion (λ y. R x y ≡ Less) (keys_of es) → T (below_all R x es)
    below_is x [] h = tt
    below_is x (y ∷ es) h = both_T (is_lt (R x y.0)) (below_all R x es) (less_T (R x y.0) h.0) (below_is x es h.1)

    rises : (es : List (K × X)) → IsStrictlySortedBy R (keys_of es) → T (is_sorted R es)
    unfolding IsStrictlySortedBy
    rises [] h = tt
    rises (y ∷ es) h = both_T (below_all R y.0 es) (is_sorted R es) (below_is y.0 es h.0) (rises es h.1)

    pub one_map : (es fs : List (K × X)) → IsStrictlySortedBy R (keys_of es) → IsStrictlySortedBy R (keys_of fs) → map.from_entries {R = R} es ≡ map.from_entries fs → es ≡ fs
    one_map es fs s t same = same_entries R e.total e.exact es fs (rises es s) (rises fs t) (λ q.
        sym (map.get-from_entries e.total es q) ∙ ap (λ m. map.get m q) same ∙ map.get-from_entries e.total fs q)

  pub one_set : (ks ls : List K) → IsStrictlySortedBy R ks → IsStrictlySortedBy R ls → set.from_list {R = R} ks ≡ set.from_list ls → ks ≡ ls
  one_set ks ls s t same = sym (keys_marked ks) ∙ ap keys_of marks ∙ keys_marked ls
    where
      found : (q : K) (ms : List K) → is_some (find R q (marked ms)) ≡ set.contains (set.from_list {R = R} ms) q
      found q ms = is_some-find R q (marked ms) ∙ ap (list_any (eq_by_cmp R q)) (keys_marked ms) ∙ sym (set.contains-from_list e.total ms q)

      marks : marked ks ≡ marked ls
      marks = same_entries R e.total e.exact (marked ks) (marked ls)
          (rises (marked ks) (subst (IsStrictlySortedBy R) (sym (keys_marked ks)) s)) (rises (marked ls) (subst (IsStrictlySortedBy R) (sym (keys_marked ls)) t))
          (λ q. one_unit _ _ (found q ks ∙ ap (λ x. set.contains x q) same ∙ sym (found q ls)))
