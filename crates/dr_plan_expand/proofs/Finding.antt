-- The first element of a list that has a property, looked for from the front.
use Rattle.std.proofs.Common.{◌≡◌, ℕ, ◌+◌, ◌<◌, ◌≤◌, inl, inr, refl, ap, map, subst, List, [], ◌∷◌, length, get_or, drop}
use Rattle.std.proofs.lemmas.List.{drop_more, drop_all}
use Rattle.dr_plan_expand.specs.Lists.{IsFirst}

-- what is the first among those that are left is the first of all, and the other way round
pub record Seeks {X : Type 0} (P : X → Type 0) (items left : List X) : Type 0 where
  pub found : (x : X) → IsFirst P left x → IsFirst P items x
  pub none : (x : X) → IsFirst P items x → IsFirst P left x

pub seeks_start : {X : Type 0} (P : X → Type 0) (items : List X) → Seeks P items items
seeks_start P items = record { found = λ x h. h; none = λ x h. h }

later : {X : Type 0} (P : X → Type 0) (item x : X) (more : List X) → (P item → ⊥) → IsFirst P (item ∷ more) x → IsFirst P more x
later P item x more other h = elim h [ inl here ↦ absurd (other here.0) | inr there ↦ there.1 ]

step : {X : Type 0} (P : X → Type 0) (items more : List X) (item : X) → (P item → ⊥) → Seeks P items (item ∷ more) → Seeks P items more
step P items more item other so_far = record {
  found = λ x h. so_far.found x (inr (other, h));
  none = λ x h. later P item x more other (so_far.none x h);
}

-- an element that hasn't the property is passed
pub seeks_more : {X : Type 0} (P : X → Type 0) (items : List X) (i : ℕ) (item : X) → i < length items → item ≡ get_or items i item → (P item → ⊥) →
    Seeks P items (drop i items) → Seeks P items (drop (i + 1) items)
seeks_more P items i item lt at other so_far =
    let split : drop i items ≡ item ∷ drop (i + 1) items = rw (← at) at (drop_more items i item lt) in
    step P items (drop (i + 1) items) item other (subst (Seeks P items) split so_far)

-- one that has it is the first
pub sought : {X : Type 0} (P : X → Type 0) (items : List X) (i : ℕ) (item : X) → i < length items → item ≡ get_or items i item → P item →
    Seeks P items (drop i items) → IsFirst P items item
sought P items i item lt at here so_far =
    let split : drop i items ≡ item ∷ drop (i + 1) items = rw (← at) at (drop_more items i item lt) in
    let S : Seeks P items (item ∷ drop (i + 1) items) = subst (Seeks P items) split so_far in
    S.found item (inl (here, refl))

-- at the end there is none
pub not_sought : {X : Type 0} (P : X → Type 0) (items : List X) (i : ℕ) → length items ≤ i → Seeks P items (drop i items) → (x : X) → IsFirst P items x → ⊥
not_sought P items i end so_far x h =
    let S : Seeks P items [] = subst (Seeks P items) (drop_all i items end) so_far in
    S.none x h

-- the first of what a list is mapped to is what its first is mapped to
pub first_mapped : {X Y : Type 0} (f : X → Y) (P : Y → Type 0) (xs : List X) (x : X) → IsFirst (λ z. P (f z)) xs x → IsFirst P (map f xs) (f x)
first_mapped f P [] x h = h
first_mapped f P (z ∷ xs) x h = elim h [ inl here ↦ inl (here.0, ap f here.1) | inr there ↦ inr (there.0, first_mapped f P xs x there.1) ]

pub first_unmapped : {X Y : Type 0} (f : X → Y) (P : Y → Type 0) (xs : List X) (y : Y) → IsFirst P (map f xs) y → (x : X) × IsFirst (λ z. P (f z)) xs x
first_unmapped f P [] y h = absurd h
first_unmapped f P (z ∷ xs) y h = elim h [
  | inl here ↦ (z, inl (here.0, refl))
  | inr there ↦ (let found = first_unmapped f P xs y there.1 in (found.0, inr (there.0, found.1)))
]
