-- Laws of the definitions.
use Rattle.std.specs.Prelude.{◌≡◌, ◌⊎◌, ℕ, ◌+◌, ◌<◌, ◌≤◌, List, length, slice_index_or}
use Rattle.dr_store_bodies.specs.declared.extent.Extent.{Extent}
use Rattle.dr_store_bodies.specs.Extents.{end_of, Stand}
use Rattle.dr_store_bodies.specs.Place.{IsFirstPlace, IsGap, IsPlace}
use Rattle.dr_store_bodies.specs.Sums.{AreSums}

-- an extent of a file that no crash changes holds one text of bytes at most
abbrev pub HeldIsOne : Type 0
HeldIsOne =
    (seen : List ℕ) (e : Extent) (bytes other : List ℕ)
    → Stand seen (λ left. left ≡ seen) e bytes
    → Stand seen (λ left. left ≡ seen) e other
    → bytes ≡ other

-- what is put into a gap lies before or behind each extent
abbrev pub GapsAreApart : Type 0
GapsAreApart =
    (extents : List Extent) (size index at k : ℕ) (d : Extent)
    → IsGap extents size index at → k < length extents
    → (end_of (slice_index_or extents k d) ≤ at)
    ⊎ (at + size ≤ (slice_index_or extents k d).at)

-- two first places are the same
abbrev pub FirstIsOne : Type 0
FirstIsOne =
    (extents : List Extent) (size index at other place : ℕ)
    → IsPlace extents size index at → IsFirstPlace extents size at
    → IsPlace extents size other place → IsFirstPlace extents size place → at ≡ place

-- a data set has one list of digests
abbrev pub SumsAreOne : Type 0
SumsAreOne =
    (key size : ℕ) (bytes sums others : List ℕ)
    → 0 < size → AreSums key size bytes sums → AreSums key size bytes others → sums ≡ others
