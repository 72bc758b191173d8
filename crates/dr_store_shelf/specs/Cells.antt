-- Cells that name a place in a file: the place, the length, and a digest of each piece.
use Rattle.std.specs.Prelude.{◌≡◌, ℕ, ◌+◌, ◌*◌, ◌^◌, ◌<◌, ◌≤◌, List, ◌∷◌, length, take, drop}
use Rattle.std.specs.Prelude.{slice_index}
use Rattle.std.specs.Int.{w64, div_ceil, from_le_bytes, to_le_bytes}
use Rattle.sqlite_disk.specs.Digest.{digest}
use Rattle.dr_store_bodies.specs.declared.extent.Extent.{Extent}
use Rattle.std.specs.List.{flat_map}
use Rattle.dr_store_bodies.specs.Sums.{AreSums, piece_of}

-- the bytes of a piece
abbrev pub piece : ℕ
piece = 262144

-- each number fits into eight bytes
abbrev pub Fit : List ℕ → Type 0
Fit numbers = (i : ℕ) → i < length numbers → slice_index numbers i < 2 ^ 64

-- numbers one behind the other, each in eight bytes, the lowest first
abbrev pub written : List ℕ → List ℕ
written numbers = flat_map (to_le_bytes w64) numbers

-- the number that is written at that place of a cell
abbrev pub number_at : List ℕ → ℕ → ℕ
number_at cell at = from_le_bytes w64 (take 8 (drop at cell))

-- the extent of a cell: its first two numbers
abbrev pub extent_in : List ℕ → Extent
extent_in cell = record { at = number_at cell 0; size = number_at cell 8 }

-- The cell ends with its digests: behind place and length it has one for each piece of so many
-- bytes, and nothing else.
abbrev pub EndsWithDigests : List ℕ → Type 0
EndsWithDigests cell = length cell ≡ 16 + div_ceil (number_at cell 8) piece * 8

-- what is seen at an extent
abbrev pub shown : List ℕ → Extent → List ℕ
shown seen e = take e.size (drop e.at seen)

-- the digest of the piece with that number: those behind the first two
abbrev pub sum_in : List ℕ → ℕ → ℕ
sum_in cell i = number_at cell (16 + i * 8)

-- the cell has a digest for each piece of the bytes, and under the key the piece has it
abbrev pub HaveDigests : ℕ → List ℕ → List ℕ → Type 0
HaveDigests key cell bytes =
    (i : ℕ) → i * piece < length bytes
    → (24 + i * 8 ≤ length cell) × (sum_in cell i ≡ digest key (piece_of piece bytes i))

-- The bytes have the length that the cell says, and each piece of them has its digest, behind which
-- the cell has nothing.
pub record Passes (key : ℕ) (cell bytes : List ℕ) : Type 0 where
  pub ends : EndsWithDigests cell
  pub whole : length bytes ≡ (extent_in cell).size
  pub each : HaveDigests key cell bytes

-- the cell of a data set, but for its place, which is 0
pub record IsBlankCell (key : ℕ) (body cell : List ℕ) : Type 0 where
  pub sums : List ℕ
  pub are : AreSums key piece body sums
  pub fit : Fit sums
  pub says : cell ≡ written (0 ∷ length body ∷ sums)
