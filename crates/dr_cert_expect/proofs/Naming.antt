-- Elements that are looked at one after another.
use Rattle.std.proofs.Common.{◌≡◌, ℕ, zero, suc, ◌+◌, ◌<◌, ◌∙◌, ap, sym, subst, List, [], ◌∷◌, ◌++◌, length, get_or, take, arith}
use Rattle.std.specs.Prelude.{All}
use Rattle.std.proofs.lemmas.List.{take_more}
use Rattle.std.proofs.lemmas.List.Elements.{All-push}

-- one more of which it holds
pub one_more_so : {X : Type 0} (P : X → Type 0) (xs : List X) (i : ℕ) (x : X) → i < length xs → x ≡ get_or xs i x → All P (take i xs) → P x → All P (take (i + 1) xs)
one_more_so {X} P xs i x lt at so_far here =
    let pushed : take (i + 1) xs ≡ take i xs ++ x ∷ [] = take_more xs i x lt ∙ ap (λ (e : X). take i xs ++ e ∷ []) (sym at) in
    subst (All P) (sym pushed) (All-push P (take i xs) x so_far here)

-- a place of a list that is among its first ones
pub in_front : {X : Type 0} (k : ℕ) (xs : List X) (i : ℕ) → i < k → i < length xs → i < length (take k xs)
in_front zero xs i lt within = absurd (omega (arith, lt))
in_front (suc k) [] i lt within = absurd (omega (arith, within))
in_front (suc k) (x ∷ xs) zero lt within = omega arith
in_front (suc k) (x ∷ xs) (suc i) lt within = let more = in_front k xs i (omega (arith, lt)) (omega (arith, within)) in omega (arith, more)
