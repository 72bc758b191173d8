-- Rows that are filtered, mapped and sorted.
use Rattle.std.proofs.Common.{◌≡◌, ◌≢◌, ℕ, zero, suc, ◌+◌, ◌<◌, ◌≤◌, ◌⊎◌, inl, inr, refl, sym, ◌∙◌, ap, subst, List, [], ◌∷◌, ◌++◌, length, get_or, Contains, Some, None, true, false, cond, arith, length-append}
use Rattle.std.specs.Prelude.{◌↔◌, Bool, AllPairs, All, filter, map, slice_get}
use Rattle.std.specs.declared.cmp.Ordering.{Ordering}
use Rattle.std.specs.declared.cmp.Ordering.TheVariants.{Less, Equal, Greater}
use Rattle.std.specs.Cmp.{IsTotalOrder}
use Rattle.std.specs.Ordering.{ordering_reverse}
use Rattle.std.proofs.lemmas.Cmp.{tied_itself}
use Rattle.std.proofs.lemmas.Bool.{cases_Bool, false≢true}
use Rattle.std.proofs.lemmas.List.{get_or-map}
use Rattle.std.proofs.lemmas.Option.{slice_get_read}
use Rattle.std.proofs.Math.Seq.{get_or-append_seam}
use Rattle.std.proofs.lemmas.List.{length-map}
use Rattle.std.proofs.lemmas.List.Elements.{Contains-get_or}
use Rattle.dr_plan_model.proofs.Gathered.{nothing_in_nil, Contains-cons_cases, Contains-there, Contains-here}

module _ {X : Type 0} where
  pub filter_has : (g : X → Bool) (xs : List X) (x : X) → Contains (filter g xs) x ↔ (Contains xs x × (g x ≡ true))
  filter_has g [] x = (λ h. absurd (nothing_in_nil x h), λ h. absurd (nothing_in_nil x h.0))
  filter_has g (y ∷ ys) x = elim (cases_Bool (g y)) [
    | inl holds_here ↦ rw holds_here (
      λ h. elim (Contains-cons_cases y (filter g ys) x h) [
        | inl same ↦ (let P : X → Type 0 = λ z. Contains (y ∷ ys) z × (g z ≡ true) in subst P same (Contains-here y ys, holds_here))
        | inr later ↦ (let r = (filter_has g ys x).0 later in (Contains-there y ys x r.0, r.1))
      ],
      λ h. elim (Contains-cons_cases y ys x h.0) [
        | inl same ↦ (let P : X → Type 0 = λ z. Contains (y ∷ filter g ys) z in subst P same (Contains-here y (filter g ys)))
        | inr later ↦ Contains-there y (filter g ys) x ((filter_has g ys x).1 (later, h.1))
      ],
    )
    | inr other ↦ rw other (
      λ h. (let r = (filter_has g ys x).0 h in (Contains-there y ys x r.0, r.1)),
      λ h. elim (Contains-cons_cases y ys x h.0) [
        | inl same ↦ absurd (false≢true (sym other ∙ (ap g same ∙ h.1)))
        | inr later ↦ (filter_has g ys x).1 (later, h.1)
      ],
    )
  ]

  -- ---- sorted rows with the same elements are equal
  pub tail_sorted : (R : X → X → Ordering) (x : X) (xs : List X) → AllPairs (λ p q. R p q ≡ Less) (x ∷ xs) → AllPairs (λ p q. R p q ≡ Less) xs
  tail_sorted R x xs s i j d lt h = s (suc i) (suc j) d (omega arith) (omega arith)

  pub head_below : (R : X → X → Ordering) (x : X) (xs : List X) → AllPairs (λ p q. R p q ≡ Less) (x ∷ xs) → (y : X) → Contains xs y → R x y ≡ Less
  head_below R x xs s y h =
      let at : R x (get_or xs h.0 y) ≡ Less = s 0 (suc h.0) y (omega arith) (let lt : h.0 < length xs = h.1 in omega arith) in
      ap (λ (z : X). R x z) (sym h.2) ∙ at

  not_both_less : (R : X → X → Ordering) → IsTotalOrder R → (x y : X) → R x y ≡ Less → R y x ≡ Less → ⊥
  not_both_less R o x y a b =
      let e : Less ≡ Greater = sym a ∙ (o.antisymm x y ∙ ap ordering_reverse b) in cc e

  not_less_itself : (R : X → X → Ordering) → IsTotalOrder R → (x : X) → R x x ≡ Less → ⊥
  not_less_itself R o x a = let e : Less ≡ Equal = sym a ∙ tied_itself o x in cc e

  pub same_sorted : (R : X → X → Ordering) → IsTotalOrder R → (xs ys : List X) → AllPairs (λ p q. R p q ≡ Less) xs → AllPairs (λ p q. R p q ≡ Less) ys →
      ((x : X) → Contains xs x ↔ Contains ys x) → xs ≡ ys
  same_sorted R o [] [] s t same = refl
  same_sorted R o [] (y ∷ ys) s t same = absurd (nothing_in_nil y ((same y).1 (Contains-here y ys)))
  same_sorted R o (x ∷ xs) [] s t same = absurd (nothing_in_nil x ((same x).0 (Contains-here x xs)))
  same_sorted R o (x ∷ xs) (y ∷ ys) s t same =
      let heads : x ≡ y = elim (Contains-cons_cases y ys x ((same x).0 (Contains-here x xs))) [
        | inl e ↦ sym e
        | inr x_later ↦ elim (Contains-cons_cases x xs y ((same y).1 (Contains-here y ys))) [
          | inl e ↦ e
          | inr y_later ↦ absurd (not_both_less R o x y (head_below R x xs s y y_later) (head_below R y ys t x x_later))
        ]
      ] in
      let tails : xs ≡ ys = same_sorted R o xs ys (tail_sorted R x xs s) (tail_sorted R y ys t) (λ z. (
        λ h. elim (Contains-cons_cases y ys z ((same z).0 (Contains-there x xs z h))) [
          | inl e ↦ absurd (not_less_itself R o x (ap (λ (w : X). R x w) (heads ∙ e) ∙ head_below R x xs s z h))
          | inr later ↦ later
        ],
        λ h. elim (Contains-cons_cases x xs z ((same z).1 (Contains-there y ys z h))) [
          | inl e ↦ absurd (not_less_itself R o y (ap (λ (w : X). R y w) (sym heads ∙ e) ∙ head_below R y ys t z h))
          | inr later ↦ later
        ],
      )) in
      ap (λ (z : X). z ∷ xs) heads ∙ ap (λ (zs : List X). y ∷ zs) tails

-- ---- the element behind a front
pub at_seam : {X : Type 0} (xs : List X) (y : X) (ys : List X) → slice_get (xs ++ y ∷ ys) (length xs) ≡ Some y
at_seam xs y ys = slice_get_read (xs ++ y ∷ ys) _ (length xs) y refl (let e = length-append xs (y ∷ ys) in omega (arith, e)) (sym (get_or-append_seam xs y ys y))

-- ---- rows that are mapped
pub map_has : {X Y : Type 0} (f : X → Y) (xs : List X) (y : Y) → Contains (map f xs) y → (x : X) × Contains xs x × (f x ≡ y)
map_has f [] y h = absurd (nothing_in_nil y h)
map_has f (x ∷ xs) y h = elim (Contains-cons_cases (f x) (map f xs) y h) [
  | inl same ↦ (x, Contains-here x xs, same)
  | inr later ↦ (let r = map_has f xs y later in (r.0, Contains-there x xs r.0 r.1, r.2))
]

pub map_of : {X Y : Type 0} (f : X → Y) (xs : List X) (x : X) → Contains xs x → Contains (map f xs) (f x)
map_of f [] x h = absurd (nothing_in_nil x h)
map_of f (z ∷ xs) x h = elim (Contains-cons_cases z xs x h) [
  | inl same ↦ (let P : _ → Type 0 = λ w. Contains (f z ∷ map f xs) (f w) in subst P same (Contains-here (f z) (map f xs)))
  | inr later ↦ Contains-there (f z) (map f xs) (f x) (map_of f xs x later)
]

-- what holds of each two elements, holds of each two of their images
pub map_pairs : {X Y : Type 0} (f : X → Y) (R : X → X → Type 0) (S : Y → Y → Type 0) (xs : List X) → ((x y : X) → Contains xs x → Contains xs y → R x y → S (f x) (f y)) →
    AllPairs R xs → AllPairs S (map f xs)
map_pairs f R S [] each all i j d lt h = absurd (omega arith)
map_pairs {X} {Y} f R S (x ∷ xs) each all i j d lt h =
    let n = length-map (x ∷ xs) f in
    let in_j : j < length (x ∷ xs) = omega (arith, h, n) in
    let in_i : i < length (x ∷ xs) = omega arith in
    let P : Y → Y → Type 0 = S in
    let at_i : get_or (map f (x ∷ xs)) i d ≡ f (get_or (x ∷ xs) i x) = get_or-map f (x ∷ xs) i x d in_i in
    let at_j : get_or (map f (x ∷ xs)) j d ≡ f (get_or (x ∷ xs) j x) = get_or-map f (x ∷ xs) j x d in_j in
    let A : Y → Type 0 = λ y. S y (get_or (map f (x ∷ xs)) j d) in
    let B : Y → Type 0 = λ y. S (f (get_or (x ∷ xs) i x)) y in
    subst A (sym at_i) (subst B (sym at_j)
    (each (get_or (x ∷ xs) i x) (get_or (x ∷ xs) j x) (Contains-get_or (x ∷ xs) i x in_i) (Contains-get_or (x ∷ xs) j x in_j) (all i j x lt in_j)))

-- different images have different elements
pub unmap_apart : {X Y : Type 0} (f : X → Y) (xs : List X) → AllPairs (λ a b. a ≢ b) (map f xs) → AllPairs (λ a b. a ≢ b) xs
unmap_apart f xs all i j d lt h same =
    let n = length-map xs f in
    let in_i : i < length xs = omega arith in
    let at_i = get_or-map f xs i d (f d) in_i in
    let at_j = get_or-map f xs j d (f d) h in
    all i j (f d) lt (omega (arith, h, n)) (at_i ∙ (ap f same ∙ sym at_j))
