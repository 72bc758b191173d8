-- A binary search among entries in order.
use Rattle.std.proofs.Common.{◌≡◌, ℕ, zero, suc, ◌+◌, ◌<◌, ◌≤◌, List, [], ◌∷◌, length, get_or, None, Some, Result, Ok, Err, Bool, true, false, ◌&&◌, not, cond, T, refl, sym, ap, subst, ◌∙◌, arith}
use Rattle.std.specs.List.{insert}
use Rattle.std.specs.List.Sorted.{IsSearchInRange, IsBinarySearchResult, IsSortedBy}
use Rattle.std.specs.declared.cmp.Ordering.{Ordering}
use Rattle.std.specs.declared.cmp.Ordering.TheVariants.{Less, Equal, Greater}
use Rattle.std.specs.Ordering.{is_lt, is_eq}
use Rattle.std.specs.Cmp.{IsTotalOrder}
use Rattle.std.specs.FinMap.{find, put, is_sorted}
use Rattle.std.proofs.lemmas.List.Sorted.{searchable_from_sorted}
use Rattle.dr_ledger_views.specs.Tables.{IsPlace, IsThere, without}
use Rattle.std.specs.FinMap.Entries.{by_order, below_all}
use Rattle.std.specs.Ordering.{ordering_reverse}

pub left : (a b : Bool) → T (a && b) → T a
left true b h = tt
left false b h = absurd h

pub right : (a b : Bool) → T (a && b) → T b
right true b h = h
right false b h = absurd h

less : (r : Ordering) → T (is_lt r) → r ≡ Less
less Less h = refl
less Equal h = absurd h
less Greater h = absurd h

turned : {K : Type 0} {R : K → K → Ordering} → IsTotalOrder R → (x y : K) (r : Ordering) → R x y ≡ r → R y x ≡ ordering_reverse r
turned o x y r h = o.antisymm y x ∙ ap ordering_reverse h

pub below_at : {K X : Type 0} (R : K → K → Ordering) (x : K) (es : List (K × X)) (i : ℕ) (d : K × X) → T (below_all R x es) → i < length es → R x (get_or es i d).0 ≡ Less
below_at R x [] i d h lt = absurd (omega (arith, lt))
below_at R x (e ∷ es) zero d h lt = less _ (left _ _ h)
below_at R x (e ∷ es) (suc i) d h lt = below_at R x es i d (right _ _ h) (omega (arith, lt))

module _ {K X : Type 0} {R : K → K → Ordering} (o : IsTotalOrder R) where
  -- what a search asks of the order
  pub rising : (es : List (K × X)) → T (is_sorted R es) → IsSortedBy (λ (a b : K × X). is_lt (R a.0 b.0)) es
  rising [] h k d low lt = absurd (omega (arith, lt))
  rising (e ∷ es) h zero d low lt = ap is_lt (turned o e.0 (get_or es 0 d).0 Less (below_at R e.0 es 0 d (left _ _ h) (omega (arith, lt))))
  rising (e ∷ es) h (suc k) d low lt =
      subst (λ n. is_lt (R (get_or (e ∷ es) n d).0 (get_or es k d).0) ≡ false) {x = suc (k + 1)} {y = suc k + 1} (omega arith) (rising es (right _ _ h) k d (omega arith) (omega (arith, lt)))

  module _ (k : K) where
    -- all that lies above a tie stays
    above_tie : (x : K) (es : List (K × X)) → T (below_all R x es) → R k x ≡ Equal → without R k es ≡ es
    above_tie x [] h ties = refl
    above_tie x (e ∷ es) h ties =
        let below : R k e.0 ≡ Less = o.congr k x e.0 ties ∙ less _ (left _ _ h) in
        ap (λ r. cond (not (is_eq r)) (e ∷ without R k es) (without R k es)) below ∙ ap (λ xs. e ∷ xs) (above_tie x es (right _ _ h) ties)

    -- at an entry whose key ties
    pub at_place : (es : List (K × X)) (i : ℕ) (d : K × X) → T (is_sorted R es) → i < length es → R (get_or es i d).0 k ≡ Equal → IsThere R k es i (get_or es i d)
    at_place [] i d h lt ties = absurd (omega (arith, lt))
    at_place (e ∷ es) zero d h lt ties =
        let tie : R k e.0 ≡ Equal = turned o e.0 k Equal ties in (
          ap (λ r. cond (is_eq r) (Some e.1) (find R k es)) tie,
          λ v. ap (λ r. by_order r ((k, v) ∷ e ∷ es) ((e.0, v) ∷ es) (e ∷ put R k v es)) tie,
          sym (ap (λ r. cond (not (is_eq r)) (e ∷ without R k es) (without R k es)) tie ∙ above_tie e.0 es (left _ _ h) tie),
        )
    at_place (e ∷ es) (suc i) d h lt ties =
        let later = at_place es i d (right _ _ h) (omega (arith, lt)) ties in
        let higher : R (get_or es i d).0 e.0 ≡ Greater = turned o e.0 (get_or es i d).0 Less (below_at R e.0 es i d (left _ _ h) (omega (arith, lt))) in
        let above : R k e.0 ≡ Greater = sym (o.congr (get_or es i d).0 k e.0 ties) ∙ higher in (
          ap (λ r. cond (is_eq r) (Some e.1) (find R k es)) above ∙ later.0,
          λ v. ap (λ r. by_order r ((k, v) ∷ e ∷ es) ((e.0, v) ∷ es) (e ∷ put R k v es)) above ∙ ap (λ xs. e ∷ xs) (later.1 v),
          ap (λ xs. e ∷ xs) later.2 ∙ sym (ap (λ r. cond (not (is_eq r)) (e ∷ without R k es) (without R k es)) above),
        )

    -- between the lower keys and the higher ones
    in_gap : (es : List (K × X)) (i : ℕ) → i ≤ length es → ((j : ℕ) (d : K × X) → j < i → R (get_or es j d).0 k ≡ Less) →
        ((j : ℕ) (d : K × X) → i ≤ j → j < length es → R (get_or es j d).0 k ≡ Greater) →
        (find R k es ≡ None) × ((v : X) → put R k v es ≡ insert es i (k, v)) × (without R k es ≡ es)
    in_gap [] zero le low high = (refl, λ v. refl, refl)
    in_gap [] (suc i) le low high = absurd (omega (arith, le))
    in_gap (e ∷ es) zero le low high =
        let below : R k e.0 ≡ Less = turned o e.0 k Greater (high 0 e (omega arith) (omega arith)) in
        let rest = in_gap es 0 (omega arith) (λ j d lt. absurd (omega (arith, lt))) (λ j d a b. high (suc j) d (omega arith) (omega (arith, b))) in (
          ap (λ r. cond (is_eq r) (Some e.1) (find R k es)) below ∙ rest.0,
          λ v. ap (λ r. by_order r ((k, v) ∷ e ∷ es) ((e.0, v) ∷ es) (e ∷ put R k v es)) below,
          ap (λ r. cond (not (is_eq r)) (e ∷ without R k es) (without R k es)) below ∙ ap (λ xs. e ∷ xs) rest.2,
        )
    in_gap (e ∷ es) (suc i) le low high =
        let above : R k e.0 ≡ Greater = turned o e.0 k Less (low 0 e (omega arith)) in
        let rest = in_gap es i (omega (arith, le)) (λ j d lt. low (suc j) d (omega (arith, lt))) (λ j d a b. high (suc j) d (omega (arith, a)) (omega (arith, b))) in (
          ap (λ r. cond (is_eq r) (Some e.1) (find R k es)) above ∙ rest.0,
          λ v. ap (λ r. by_order r ((k, v) ∷ e ∷ es) ((e.0, v) ∷ es) (e ∷ put R k v es)) above ∙ ap (λ xs. e ∷ xs) (rest.1 v),
          ap (λ r. cond (not (is_eq r)) (e ∷ without R k es) (without R k es)) above ∙ ap (λ xs. e ∷ xs) rest.2,
        )

    pub searched : (es : List (K × X)) → T (is_sorted R es) → (r : Result ℕ ℕ) → IsSearchInRange r (length es) → IsBinarySearchResult (λ (e : K × X). R e.0 k) es r → IsPlace R k es r
    searched es h (Ok i) lt ties = (lt, λ d. at_place es i d h lt (ties d))
    searched es h (Err i) le parts =
        let p = parts (searchable_from_sorted o (λ (e : K × X). e.0) es k (rising es h)) in
        let g = in_gap es i le (λ j d lt. p.0 j d (omega arith) lt) p.1 in (le, g.0, g.1, g.2)
