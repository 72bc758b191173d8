-- Laws of cells.
use Rattle.std.specs.Prelude.{◌≡◌, ℕ, ◌*◌, ◌<◌, ◌≤◌, List, [], ◌∷◌, ◌++◌, length, slice_index}
use Rattle.std.specs.Prelude.{take}
use Rattle.dr_store_bodies.specs.declared.extent.Extent.{Extent}
use Rattle.dr_store_bodies.specs.Sums.{AreSums}
use Rattle.dr_store_shelf.specs.Cells.{EndsWithDigests, Fit, Passes, extent_in, number_at}
use Rattle.dr_store_shelf.specs.Cells.{piece, written}

-- each number stands at its place
abbrev pub NumbersAreRead : Type 0
NumbersAreRead =
    (numbers : List ℕ) (i : ℕ)
    → Fit numbers
    → i < length numbers
    → number_at (written numbers) (i * 8) ≡ slice_index numbers i

-- the extent of so many bytes at that place
abbrev pub placed : ℕ → ℕ → Extent
placed at size = record { at = at; size = size }

-- a cell of a place and of a data set's length and digests names that extent, and the data set
-- passes its test
pub record Says (key at : ℕ) (body sums : List ℕ) : Type 0 where
  pub extent : extent_in (written (at ∷ length body ∷ sums))
      ≡ placed at (length body)
  pub passes : Passes key (written (at ∷ length body ∷ sums)) body

abbrev pub BodyCellsSayWhatWasWritten : Type 0
BodyCellsSayWhatWasWritten =
    (key at : ℕ) (body sums : List ℕ)
    → AreSums key piece body sums
    → Fit (at ∷ length body ∷ sums)
    → Says key at body sums

-- a cell that ends with its digests does so with no byte more
abbrev pub NothingStandsBehind : Type 0
NothingStandsBehind =
    (cell tail : List ℕ) → EndsWithDigests cell → EndsWithDigests (cell ++ tail) → tail ≡ []

-- and with no byte less
abbrev pub NothingWasCut : Type 0
NothingWasCut =
    (cell : List ℕ) (n : ℕ) → EndsWithDigests cell → EndsWithDigests (take n cell) → length cell ≤ n
