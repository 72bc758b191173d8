-- A text is its front and what is behind that.
use Rattle.std.proofs.Common.{◌≡◌, ◌++◌, sym, ℕ, List, drop, take}
use Rattle.std.proofs.lemmas.List.{take-append-drop}

pub split_at_place : (i : ℕ) (text : List ℕ) → (rest : List ℕ) × (text ≡ take i text ++ rest)
split_at_place i text = (drop i text, sym (take-append-drop i text))
