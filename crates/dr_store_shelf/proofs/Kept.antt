-- What stays in a list that is filtered.
use Rattle.std.proofs.Common.{◌≡◌, ◌<◌, ◌⊎◌, inl, inr, sym, ◌∙◌, ap, subst, List, [], ◌∷◌, Contains}
use Rattle.std.proofs.Common.{All, Bool, true, filter, arith, slice_index_or, Result, Ok, Err, OnErr}
use Rattle.std.proofs.lemmas.Bool.{cases_Bool, false≢true}
use Rattle.std.proofs.lemmas.List.{get_or_default}
use Rattle.std.proofs.lemmas.List.Elements.{All-contains, Contains-append_left, Contains-append_right}
use Rattle.std.proofs.lemmas.List.Elements.{Contains-append_cases, Contains-push_cases}
use Rattle.std.proofs.lemmas.List.Elements.{Contains-push}

nothing : {X : Type 0} (x : X) → Contains [] x → ⊥
nothing x among = let low : among.0 < 0 = among.1 in omega arith

first_or_later :
    {X : Type 0} (y : X) (ys : List X) (x : X) → Contains (y ∷ ys) x → (y ≡ x) ⊎ Contains ys x
first_or_later y ys x among =
    elim (Contains-append_cases (y ∷ []) ys x among) [
      | inl first ↦ elim (Contains-push_cases [] y x first) [
        | inl none ↦ absurd (nothing x none)
        | inr same ↦ inl same
      ]
      | inr later ↦ inr later
    ]

pub kept_in :
    {X : Type 0} (test : X → Bool) (xs : List X) (x : X)
    → Contains xs x → test x ≡ true → Contains (filter test xs) x
kept_in {X = X} test [] x among holds = absurd (nothing x among)
kept_in {X = X} test (y ∷ ys) x among holds =
    elim (cases_Bool (test y)) [
      | inl here ↦ rw here (elim (first_or_later y ys x among) [
        | inl same ↦ (let P : X → Type 0 = λ z. Contains (y ∷ filter test ys) z in
            subst P same
            (Contains-append_left (y ∷ []) (filter test ys) y (Contains-push [] y)))
        | inr later ↦ Contains-append_right (y ∷ []) (filter test ys) x
            (kept_in test ys x later holds)
      ])
      | inr other ↦ rw other (elim (first_or_later y ys x among) [
        | inl same ↦ absurd (false≢true (sym other ∙ (ap test same ∙ holds)))
        | inr later ↦ kept_in test ys x later holds
      ])
    ]

-- what holds at all holds at an error
pub on_err : {A E P : Type 0} (r : Result A E) → P → OnErr r P
on_err (Ok value) it = tt
on_err (Err why) it = it

-- what holds of all holds of some of them
pub all_fewer :
    {X : Type 0} (P : X → Type 0) (some all : List X)
    → ((x : X) → Contains some x → Contains all x) → All P all → All P some
all_fewer P some all among holds i d low =
    let x = slice_index_or some i d in
    All-contains P all x holds (among x (i, low, get_or_default some i x d low))
