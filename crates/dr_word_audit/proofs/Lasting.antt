-- The last line of a kind.
use Rattle.std.proofs.Common.{◌≡◌, ◌∙◌, ◌+◌, ◌<◌, ◌⊎◌, inl, inr, ◌++◌, ◌∷◌, [], ℕ, zero, suc, arith, Bool, true, false, List, Option, None, Some, cond, length, take, get_or, map as mapped, refl, sym, ap, subst}
use Rattle.std.specs.Prelude.{Contains}
use Rattle.std.proofs.lemmas.List.{append_assoc, append-nil}
use Rattle.std.proofs.lemmas.List.Elements.{Contains-push_cases}
use Rattle.dr_plan_model.proofs.Gathered.{nothing_in_nil}
use Rattle.dr_ledger.specs.Books.{Line}
use Rattle.dr_word_audit.specs.Places.{HasNone, IsLast}

module _ (test : Line → Bool) where
  pub none_yet : IsLast test [] None
  none_yet = λ line among. absurd (nothing_in_nil line among)

  -- one line more that is none
  none_more : (lines : List Line) (line : Line) → test line ≡ false → HasNone test lines → HasNone test (lines ++ line ∷ [])
  none_more lines line isnt so_far = λ other among. elim (Contains-push_cases lines line other among) [
    | inl was ↦ so_far other was
    | inr same ↦ (let P : Line → Type 0 = λ l. test l ≡ false in subst P same isnt)
  ]

  still : (lines : List Line) (line : Line) (found : Option ℕ) → test line ≡ false → IsLast test lines found → IsLast test (lines ++ line ∷ []) found
  still lines line None isnt so_far = none_more lines line isnt so_far
  still lines line (Some number) isnt (before, later, one, at, count, is, none) = (
    before,
    later ++ line ∷ [],
    one,
    ap (λ (xs : List Line). xs ++ line ∷ []) at ∙ append_assoc before (one ∷ later) (line ∷ []),
    count,
    is,
    none_more later line isnt none,
  )

  -- one line more, if it is such the last one
  pub last_more : (lines : List Line) (line : Line) (found : Option ℕ) (place : ℕ) (is : Bool) → place ≡ length lines + 1 → is ≡ test line → IsLast test lines found
      → IsLast test (lines ++ line ∷ []) (cond is (Some place) found)
  last_more lines line found place true count is so_far = (lines, [], line, refl, count, sym is, λ other among. absurd (nothing_in_nil other among))
  last_more lines line found place false count is so_far = still lines line found (sym is) so_far

-- so many were taken
pub taken : {X : Type 0} (xs : List X) (i : ℕ) → i < length xs → length (take i xs) ≡ i
taken [] i lt = absurd (omega (arith, lt))
taken (x ∷ xs) zero lt = refl
taken (x ∷ xs) (suc i) lt = ap (λ n. suc n) (taken xs i (omega (arith, lt)))

-- as many are shown
pub as_many : {X Y : Type 0} (f : X → Y) (xs : List X) → length (mapped f xs) ≡ length xs
as_many f [] = refl
as_many f (x ∷ xs) = ap (λ n. suc n) (as_many f xs)
