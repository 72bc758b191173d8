-- The first gap.
use Rattle.std.proofs.Common.{◌≡◌, ℕ, ◌+◌, ◌^◌, ◌<◌, ◌≤◌, List, length, slice_index_or}
use Rattle.std.proofs.Common.{AllPairs, Some, slice_get, ◌-◌, sym, ◌∙◌, ap, subst, inl, inr, arith}
use Rattle.std.proofs.lemmas.Option.{get_or_from_slice_get}
use Rattle.std.proofs.lemmas.Bool.{cases_lt, cases_order}
use Rattle.std.proofs.lemmas.List.{get_or_default}
use Rattle.dr_store_bodies.specs.declared.extent.Extent.{Extent}
use Rattle.dr_store_bodies.specs.Extents.{end_of, LiesBefore}
use Rattle.dr_store_bodies.specs.Place.{IsFirstPlace, IsFull, IsGap, IsPlace}

module _
    (extents : List Extent) (i : ℕ) (e : Extent)
    (low : i < length extents) (apart : AllPairs LiesBefore extents) where
  same : (d : Extent) → slice_index_or extents i d ≡ slice_index_or extents i e
  same d = get_or_default extents i d e low

  -- before the next extent
  pub gap_before :
      (size at : ℕ) → at + size < 2 ^ 64 → at + size ≤ (slice_index_or extents i e).at
      → ((k : ℕ) (d : Extent) → k < i → end_of (slice_index_or extents k d) ≤ at)
      → IsGap extents size i at
  gap_before size at fits under behind =
      let here = λ (d : Extent). subst (λ f. at + size ≤ f.at) (sym (same d)) under in
      record {
        counted = omega arith;
        fits = fits;
        behind = behind;
        before = λ k d from within. elim (cases_order k i) [
          | inl is ↦ subst (λ n. at + size ≤ (slice_index_or extents n d).at) (sym is) (here d)
          | inr (inl less) ↦ absurd (omega arith)
          | inr (inr more) ↦ omega (arith, here d, apart i k d more within)
        ];
      }

  -- behind it
  pub behind_next :
      (at : ℕ) → end_of (slice_index_or extents i e) ≤ at
      → (k : ℕ) (d : Extent) → k < i + 1 → end_of (slice_index_or extents k d) ≤ at
  behind_next at over k d less =
      let here = subst (λ f. end_of f ≤ at) (sym (same d)) over in
      elim (cases_order k i) [
        | inl is ↦ subst (λ n. end_of (slice_index_or extents n d) ≤ at) (sym is) here
        | inr (inl before) ↦ omega (arith, here, apart k i d before low)
        | inr (inr more) ↦ absurd (omega arith)
      ]

  -- where the room before it is too small, each place is behind it
  pub passes :
      (size at index other : ℕ)
      → IsFirstPlace extents size at → (slice_index_or extents i e).at < at + size
      → IsPlace extents size index other → end_of (slice_index_or extents i e) ≤ other
  passes size at index other first small place =
      elim (cases_lt i index) [
        | inl before ↦ place.gap.behind i e before
        | inr over ↦
            absurd (omega (arith, small, first index other place, place.gap.before i e over low))
      ]

-- where not even the first place is within the numbers, there is none
pub full_at :
    (extents : List Extent) (size at : ℕ)
    → IsFirstPlace extents size at → 2 ^ 64 ≤ at + size → IsFull extents size
full_at extents size at first over index other place =
    omega (arith, first index other place, place.gap.fits, over)

-- the last extent ends behind all others
pub ends_last :
    (extents : List Extent) (e : Extent)
    → AllPairs LiesBefore extents → slice_get extents (length extents - 1) ≡ Some e
    → (k : ℕ) (d : Extent) → k < length extents → end_of (slice_index_or extents k d) ≤ end_of e
ends_last extents e apart last k d low =
    let n = length extents - 1 in
    let is : slice_index_or extents n d ≡ e = get_or_from_slice_get extents n e d last in
    elim (cases_lt k n) [
      | inl before ↦
          omega (
            arith,
            subst (λ f. end_of (slice_index_or extents k d) ≤ f.at) is
                (apart k n d before (omega arith)),
          )
      | inr over ↦
          let same : k ≡ n = omega arith in
          let here : slice_index_or extents k d ≡ e
          = ap (λ m. slice_index_or extents m d) same ∙ is in
          subst (λ f. end_of f ≤ end_of e) (sym here) (omega arith)
    ]
