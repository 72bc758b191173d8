-- One piece's digest more.
use Rattle.std.proofs.Common.{◌≡◌, ℕ, ◌+◌, ◌-◌, ◌*◌, ◌<◌, List, length, take, drop, min}
use Rattle.std.proofs.Common.{◌++◌, ◌∷◌, [], sym, ◌∙◌, ap, inl, inr, arith}
use Rattle.std.proofs.Common.{length-drop, slice_index}
use Rattle.std.proofs.lemmas.Bool.{cases_lt}
use Rattle.std.proofs.lemmas.List.{get_or_append_left, get_or_push, take_min}
use Rattle.sqlite_disk.specs.Digest.{digest}
use Rattle.dr_store_bodies.specs.Sums.{piece_of}

module _
    (key size : ℕ) (bytes sums : List ℕ) (from : ℕ) (at : from ≡ length sums * size) where
  -- what is taken of the rest is the next piece
  pub piece :
      take (min size (length bytes - from)) (drop from bytes) ≡ piece_of size bytes (length sums)
  piece =
      ap (λ n. take (min size n) (drop from bytes)) (sym (length-drop from bytes))
      ∙ take_min size (drop from bytes)
      ∙ ap (λ n. take size (drop n bytes)) at

  pub each_more :
      (sum : ℕ) → sum ≡ digest key (take (min size (length bytes - from)) (drop from bytes))
      → ((i : ℕ) → i < length sums → slice_index sums i ≡ digest key (piece_of size bytes i))
      → (i : ℕ) → i < length sums + 1
      → slice_index (sums ++ sum ∷ []) i ≡ digest key (piece_of size bytes i)
  each_more sum is each i low =
      elim (cases_lt i (length sums)) [
        | inl before ↦ get_or_append_left sums (sum ∷ []) 0 i before ∙ each i before
        | inr over ↦
            let last : length sums ≡ i = omega arith in
            get_or_push sums sum 0 i last ∙ is
            ∙ ap (digest key) piece ∙ ap (λ n. digest key (piece_of size bytes n)) last
      ]
