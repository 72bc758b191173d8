-- Where a data set may be written.
use Rattle.std.specs.Prelude.{◌≡◌, ℕ, ◌+◌, ◌%◌, ◌^◌, ◌<◌, ◌≤◌, List, length, slice_index_or}
use Rattle.dr_store_bodies.specs.declared.extent.Extent.{Extent}
use Rattle.dr_store_bodies.specs.Extents.{end_of}

-- so many bytes at `at` lie between the first `index` extents and the others, and touch none
pub record IsGap (extents : List Extent) (size index at : ℕ) : Type 0 where
  pub counted : index ≤ length extents
  pub fits : at + size < 2 ^ 64
  pub behind : (k : ℕ) (d : Extent) → k < index → end_of (slice_index_or extents k d) ≤ at
  pub before :
      (k : ℕ) (d : Extent) → index ≤ k → k < length extents
      → at + size ≤ (slice_index_or extents k d).at

-- a gap that begins where a medium writes at once
pub record IsPlace (extents : List Extent) (size index at : ℕ) : Type 0 where
  pub gap : IsGap extents size index at
  pub aligned : at % 4096 ≡ 0

-- no such gap begins before `at`
abbrev pub IsFirstPlace : List Extent → ℕ → ℕ → Type 0
IsFirstPlace extents size at = (index other : ℕ) → IsPlace extents size index other → at ≤ other

-- there is no such gap at all
abbrev pub IsFull : List Extent → ℕ → Type 0
IsFull extents size = (index at : ℕ) → IsPlace extents size index at → ⊥
