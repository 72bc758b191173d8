-- Places in a file, and the bytes that are there whatever a crash does.
use Rattle.std.specs.Prelude.{◌≡◌, ℕ, ◌+◌, ◌<◌, ◌≤◌, List, All, AllPairs, length, slice_index}
use Rattle.sqlite_disk.specs.Disk.{Holds}
use Rattle.dr_store_bodies.specs.declared.extent.Extent.{Extent}

-- the first place behind an extent
abbrev pub end_of : Extent → ℕ
end_of e = e.at + e.size

-- the first of two extents ends before the other begins, so no place is in both
abbrev pub LiesBefore : Extent → Extent → Type 0
LiesBefore e later = end_of e ≤ later.at

-- a content reaches over the extent, and has there what the file is seen to have
abbrev pub Agrees : Extent → List ℕ → List ℕ → Type 0
Agrees e seen left =
    (end_of e ≤ length left)
    × ((i : ℕ) → e.at ≤ i → i < end_of e → slice_index left i ≡ slice_index seen i)

-- the extent lies within the file, and no crash at this moment changes what is seen there
abbrev pub IsSafe : List ℕ → (List ℕ → Type 0) → Extent → Type 0
IsSafe seen may_leave e =
    (end_of e ≤ length seen) × ((left : List ℕ) → may_leave left → Agrees e seen left)

-- these bytes are at the extent: in what is seen, and in each content that a crash may leave now
pub record Stand
    (seen : List ℕ) (may_leave : List ℕ → Type 0) (e : Extent) (bytes : List ℕ) : Type 0 where
  pub whole : length bytes ≡ e.size
  pub now : Holds seen e.at bytes
  pub after_crash : (left : List ℕ) → may_leave left → Holds left e.at bytes

-- extents that a file of so many bytes may have: each has bytes, they follow one another without
-- a common place, and each lies within the file
pub record AreFit (extents : List Extent) (size : ℕ) : Type 0 where
  pub filled : All (λ e. 0 < e.size) extents
  pub apart : AllPairs LiesBefore extents
  pub within : All (λ e. end_of e ≤ size) extents
