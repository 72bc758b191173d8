-- The digests of a data set's pieces.
use Rattle.std.specs.Prelude.{◌≡◌, ℕ, ◌*◌, ◌<◌, ◌≤◌, List, length, take, drop, slice_index}
use Rattle.sqlite_disk.specs.Digest.{digest}

-- the piece of so many bytes that has this number
abbrev pub piece_of : ℕ → List ℕ → ℕ → List ℕ
piece_of size bytes i = take size (drop (i * size) bytes)

-- a digest under the key for each piece of so many bytes, in their order; the last may be shorter
pub record AreSums (key size : ℕ) (bytes sums : List ℕ) : Type 0 where
  pub enough : length bytes ≤ length sums * size
  pub no_more : (i : ℕ) → i < length sums → i * size < length bytes
  pub each : (i : ℕ) → i < length sums → slice_index sums i ≡ digest key (piece_of size bytes i)
