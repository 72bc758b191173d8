use Rattle.std.proofs.Common.{rules, ◌≡◌, ◌%◌, ◌<◌, ◌≤◌, ◌^◌, ℕ, ◌+◌, slice_index_or, arith}
use Rattle.dr_store_bodies.specs.declared.extent.Extent.{Extent}
use Rattle.dr_store_bodies.specs.Extents.{end_of}
use Rattle.dr_store_bodies.proofs.GapLemmas.{behind_next, full_at, gap_before, passes}
use Rattle.dr_store_bodies.proofs.place.place.Goals as goal

pub returns-in_default-clause-full : goal.returns-in_default-clause-full
returns-in_default-clause-full c =
    full_at _ _ c.loop-i.at c.loop-i.invariant.2 (search rules)

pub returns-then-end-extent-clause-place : goal.returns-then-end-extent-clause-place
returns-then-end-extent-clause-place c =
    record {
      gap =
          gap_before c.args.extents.now c.loop-i.i record { at = 0; size = 0 } (search rules)
          c.requires c.args.size c.loop-i.at (search rules) (search rules) c.loop-i.invariant.1;
      aligned = c.loop-i.invariant.0;
    }

pub returns-in_default-sector_behind-clause-full :
    goal.returns-in_default-sector_behind-clause-full
returns-in_default-sector_behind-clause-full c index other place =
    let small : (slice_index_or c.args.extents.now c.loop-i.i record { at = 0; size = 0 }).at
    < c.loop-i.at + c.args.size = search rules in
    let none : (k : ℕ) → k % 4096 ≡ 0
    → end_of (slice_index_or c.args.extents.now c.loop-i.i record { at = 0; size = 0 }) ≤ k
    → k < 2 ^ 64 → ⊥ = search rules in
    none other place.aligned
    (passes c.args.extents.now c.loop-i.i record { at = 0; size = 0 } (search rules) c.requires
    c.args.size c.loop-i.at index other c.loop-i.invariant.2 small place)
    (omega (arith, place.gap.fits))

pub loop-i-preserved : goal.loop-i-preserved
loop-i-preserved c =
    let e : Extent = record { at = 0; size = 0 } in
    let small : (slice_index_or c.args.extents.now c.loop-i.i e).at < c.loop-i.at + c.args.size
    = search rules in
    let least : (k : ℕ) → k % 4096 ≡ 0
    → end_of (slice_index_or c.args.extents.now c.loop-i.i e) ≤ k
    → c.in-Some-sector_behind.next ≤ k = search rules in (
      search rules,
      behind_next c.args.extents.now c.loop-i.i e (search rules) c.requires _ (search rules),
      λ index other place.
          least other place.aligned
          (passes c.args.extents.now c.loop-i.i e (search rules) c.requires c.args.size c.loop-i.at
          index other c.loop-i.invariant.2 small place),
    )

pub returns-then-is_none-clause-full : goal.returns-then-is_none-clause-full
returns-then-is_none-clause-full c =
    full_at _ _ c.loop-i.at c.loop-i.invariant.2 (search rules)
