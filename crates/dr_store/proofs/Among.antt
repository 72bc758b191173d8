-- Entries of rising keys, by their places.
use Rattle.std.proofs.Common.{◌≡◌, ◌⊎◌, inl, inr, ℕ, zero, suc, ◌+◌, ◌<◌, List, [], ◌∷◌, length, get_or, None, Some, Bool, true, false, cond, ltb, ltb-true, ltb-false, T, refl, sym, ap, subst, ◌∙◌, arith}
use Rattle.std.specs.declared.cmp.Ordering.{Ordering}
use Rattle.std.specs.declared.cmp.Ordering.TheVariants.{Less, Equal, Greater}
use Rattle.std.specs.Ordering.{eq_by_cmp}
use Rattle.std.specs.FinMap.{find, is_sorted}
use Rattle.std.proofs.lemmas.Map.Views.{tells_apart}
use Rattle.dr_ledger.proofs.Maps.{IsExact}
use Rattle.dr_ledger.proofs.Growing.{inside}
use Rattle.dr_ledger_views.proofs.Searching.{below_at, left, right}

-- one place is before the other, or they are the same
pub order_of : (i k : ℕ) → (i < k) ⊎ ((i ≡ k) ⊎ (k < i))
order_of i k = go (ltb i k) refl (ltb k i) refl
  where
    go : (a : Bool) → ltb i k ≡ a → (b : Bool) → ltb k i ≡ b → (i < k) ⊎ ((i ≡ k) ⊎ (k < i))
    go true p b q = inl (ltb-true i k p)
    go false p true q = inr (inr (ltb-true k i q))
    go false p false q = inr (inl (omega (arith, ltb-false i k p, ltb-false k i q)))

-- what is found stands somewhere
pub place_of : {K X : Type 0} {R : K → K → Ordering} → IsExact R → (k : K) (v : X) (es : List (K × X)) → find R k es ≡ Some v → (i : ℕ) × ((i < length es) × ((d : K × X) → get_or es i d ≡ (k, v)))
place_of exact k v [] h = absurd (let f : ⊥ = cc in f)
place_of {K} {X} {R} exact k v (e ∷ es) h = go (eq_by_cmp R k e.0) refl h (λ is. place_of exact k v es is)
  where
    go : (b : Bool) → eq_by_cmp R k e.0 ≡ b → cond b (Some e.1) (find R k es) ≡ Some v → (find R k es ≡ Some v → (i : ℕ) × ((i < length es) × ((d : K × X) → get_or es i d ≡ (k, v)))) → (i : ℕ) × ((i < length (e ∷ es)) × ((d : K × X) → get_or (e ∷ es) i d ≡ (k, v)))
    go true t is later = (0, (omega arith, λ d j. (sym (tells_apart exact.exact k e.0 t) j, inside e.1 v is j)))
    go false t is later = let place = later is in (suc place.0, (let lt : place.0 < length es = place.1.0 in omega (arith, lt), place.1.1))

-- keys rise along the places
pub rise_at : {K X : Type 0} (R : K → K → Ordering) (es : List (K × X)) (i j : ℕ) (d : K × X) → T (is_sorted R es) → i < j → j < length es → R (get_or es i d).0 (get_or es j d).0 ≡ Less
rise_at R [] i j d h lt le = absurd (omega (arith, le))
rise_at R (e ∷ es) zero zero d h lt le = absurd (omega (arith, lt))
rise_at R (e ∷ es) zero (suc j) d h lt le = below_at R e.0 es j d (left _ _ h) (omega (arith, le))
rise_at R (e ∷ es) (suc i) zero d h lt le = absurd (omega (arith, lt))
rise_at R (e ∷ es) (suc i) (suc j) d h lt le = rise_at R es i j d (right _ _ h) (omega (arith, lt)) (omega (arith, le))
