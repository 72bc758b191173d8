use Rattle.std.proofs.Common.{ℕ, ◌<◌, ◌≤◌, slice_index_or}
use Rattle.dr_store_bodies.specs.declared.extent.Extent.{Extent}
use Rattle.dr_store_bodies.specs.Extents.{end_of, LiesBefore}
use Rattle.dr_store_bodies.proofs.order.end_in_order.Given as goal

abbrev pub invariant-loop-extent : goal.invariant-loop-extent
invariant-loop-extent l =
    ((k : ℕ) (d : Extent) → k < l.extent-index → 0 < (slice_index_or l.extents k d).size)
    × ((k : ℕ) (d : Extent) → k < l.extent-index → end_of (slice_index_or l.extents k d) ≤ l.end)
    × ((a b : ℕ) (d : Extent)
    → a < b → b < l.extent-index
    → LiesBefore (slice_index_or l.extents a d) (slice_index_or l.extents b d))
    × ((size : ℕ)
    → ((k : ℕ) (d : Extent) → k < l.extent-index → end_of (slice_index_or l.extents k d) ≤ size)
    → l.end ≤ size)
