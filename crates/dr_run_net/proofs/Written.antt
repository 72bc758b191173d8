-- Bytes that are written in pieces.
use Rattle.std.specs.Prelude.{◌≡◌, ℕ, ◌+◌, ◌≤◌, List, ◌++◌, length, take, drop}
use Rattle.std.proofs.Common.{sym, ap, subst, ◌∙◌, arith, take-append-drop, take-take, length-drop}
use Rattle.std.proofs.lemmas.List.{drop-take}
use Rattle.std.specs.declared.option.Option.{Option}
use Rattle.std.specs.Io.KnownBytes.{Appends}
use Rattle.std.proofs.KnownBytes.{Appends-trans}

take_split : (n m : ℕ) (xs : List ℕ) → n ≤ n + m → take n xs ++ take m (drop n xs) ≡ take (n + m) xs
take_split n m xs le = ap (λ (front : List ℕ). front ++ take m (drop n xs)) (sym (take-take n (n + m) xs le)) ∙ ap (λ (rest : List ℕ). take n (take (n + m) xs) ++ rest) (sym (drop-take n m xs)) ∙ take-append-drop n (take (n + m) xs)

pub written_more : (a b c : Option (List ℕ)) (bytes : List ℕ) (at count : ℕ) → at ≤ length bytes → Appends a b (take at bytes) → count ≤ length (drop at bytes) → Appends b c (take count (drop at bytes))
    → (at + count ≤ length bytes) × Appends a c (take (at + count) bytes)
written_more a b c bytes at count inside before within more = (
  omega (arith, length-drop at bytes),
  subst (Appends a c) (take_split at count bytes (omega arith)) (Appends-trans a b c (take at bytes) (take count (drop at bytes)) before more),
)
