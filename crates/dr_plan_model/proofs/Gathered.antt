-- Names that are gathered from a list, one element after another.
use Rattle.std.proofs.Common.{◌≡◌, ℕ, ◌+◌, ◌<◌, ◌⊎◌, inl, inr, ◌∙◌, ap, List, [], ◌∷◌, ◌++◌, length, get_or, take, Contains, arith}
use Rattle.std.specs.Prelude.{◌↔◌, flat_map}
use Rattle.std.proofs.lemmas.Grind.{flat_map-append}
use Rattle.std.proofs.lemmas.List.{take_more, append-nil}
use Rattle.std.proofs.lemmas.List.Elements.{Contains-append_left, Contains-append_right, Contains-append_cases, Contains-push_cases, Contains-push}
use Rattle.dr_base.specs.Texts.{Text}

-- an element of a list of one element is that one
pub only_one : {X : Type 0} (x y : X) → Contains (x ∷ []) y → x ≡ y
only_one x y among = elim (Contains-push_cases [] x y among) [
  | inl none ↦ (let lt : none.0 < 0 = none.1 in absurd (omega arith))
  | inr same ↦ same
]

pub nothing_in_nil : {X : Type 0} (y : X) → Contains [] y → ⊥
nothing_in_nil y among = let lt : among.0 < 0 = among.1 in omega arith

pub Contains-cons_cases : {X : Type 0} (x : X) (xs : List X) (y : X) → Contains (x ∷ xs) y → (x ≡ y) ⊎ Contains xs y
Contains-cons_cases x xs y among = elim (Contains-append_cases (x ∷ []) xs y among) [ inl first ↦ inl (only_one x y first) | inr later ↦ inr later ]

pub Contains-there : {X : Type 0} (x : X) (xs : List X) (y : X) → Contains xs y → Contains (x ∷ xs) y
Contains-there x xs y among = Contains-append_right (x ∷ []) xs y among

pub Contains-here : {X : Type 0} (x : X) (xs : List X) → Contains (x ∷ xs) x
Contains-here x xs = Contains-append_left (x ∷ []) xs x (Contains-push [] x)

-- what one element gives, all of them give
pub Contains-flat_map : {X : Type 0} (f : X → List Text) (xs : List X) (x : X) (y : Text) → Contains xs x → Contains (f x) y → Contains (flat_map f xs) y
Contains-flat_map f [] x y among inner = absurd (nothing_in_nil x among)
Contains-flat_map f (z ∷ xs) x y among inner = elim (Contains-cons_cases z xs x among) [
  | inl same ↦ Contains-append_left (f z) (flat_map f xs) y (rw same inner)
  | inr later ↦ Contains-append_right (f z) (flat_map f xs) y (Contains-flat_map f xs x y later inner)
]

-- what all of them give, one of them gives
pub Contains-flat_map_from : {X : Type 0} (f : X → List Text) (xs : List X) (y : Text) → Contains (flat_map f xs) y → (x : X) × Contains xs x × Contains (f x) y
Contains-flat_map_from f [] y among = absurd (nothing_in_nil y among)
Contains-flat_map_from f (z ∷ xs) y among = elim (Contains-append_cases (f z) (flat_map f xs) y among) [
  | inl here ↦ (z, Contains-here z xs, here)
  | inr later ↦ let found = Contains-flat_map_from f xs y later in (found.0, Contains-there z xs found.0 found.1, found.2)
]

pub flat_map-one_more : {X : Type 0} (f : X → List Text) (xs : List X) (i : ℕ) (x : X) → i < length xs → x ≡ get_or xs i x →
    flat_map f (take (i + 1) xs) ≡ flat_map f (take i xs) ++ f x
flat_map-one_more f xs i x h at =
    let e = take_more xs i x h in
    let more : take (i + 1) xs ≡ take i xs ++ x ∷ [] = rw (← at) at e in
    let nil : f x ++ [] ≡ f x = append-nil (f x) in
    ap (λ ys. flat_map f ys) more ∙ (flat_map-append f (take i xs) (x ∷ []) ∙ ap (λ ys. flat_map f (take i xs) ++ ys) nil)

-- what has been gathered, and what one more element gives
pub gathered : (first s n : Text → Type 0) (done more all : List Text) → all ≡ done ++ more →
    ((t : Text) → n t ↔ (s t ⊎ Contains more t)) → ((t : Text) → s t ↔ (first t ⊎ Contains done t)) → (t : Text) → n t ↔ (first t ⊎ Contains all t)
gathered first s n done more all parts added so_far t = rw parts (
  λ had. elim ((added t).0 had) [
    | inl before ↦ elim ((so_far t).0 before) [ inl x ↦ inl x | inr x ↦ inr (Contains-append_left done more t x) ]
    | inr here ↦ inr (Contains-append_right done more t here)
  ],
  λ given. elim given [
    | inl x ↦ (added t).1 (inl ((so_far t).1 (inl x)))
    | inr x ↦ elim (Contains-append_cases done more t x) [
      | inl before ↦ (added t).1 (inl ((so_far t).1 (inr before)))
      | inr here ↦ (added t).1 (inr here)
    ]
  ],
)

-- nothing has been gathered yet
pub gathered_none : (s : Text → Type 0) (t : Text) → s t ↔ (s t ⊎ Contains [] t)
gathered_none s t = (λ h. inl h, λ x. elim x [ inl y ↦ y | inr y ↦ absurd (nothing_in_nil t y) ])

-- two lists gathered after each other, and then put in order
pub gathered_all : (none some all row : List Text) (first second : List Text) → none ≡ [] →
    ((t : Text) → Contains some t ↔ (Contains none t ⊎ Contains first t)) → ((t : Text) → Contains all t ↔ (Contains some t ⊎ Contains second t)) →
    ((t : Text) → Contains row t ↔ Contains all t) → (t : Text) → Contains row t ↔ Contains (first ++ second) t
gathered_all none some all row first second empty one two ordered t = (
  λ h. elim ((two t).0 ((ordered t).0 h)) [
    | inl before ↦ elim ((one t).0 before) [
      | inl never ↦ absurd (nothing_in_nil t (rw empty at never))
      | inr x ↦ Contains-append_left first second t x
    ]
    | inr x ↦ Contains-append_right first second t x
  ],
  λ h. (ordered t).1 ((two t).1 (elim (Contains-append_cases first second t h) [
    | inl x ↦ inl ((one t).1 (inr x))
    | inr x ↦ inr x
  ])),
)
