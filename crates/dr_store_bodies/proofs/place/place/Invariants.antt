use Rattle.std.proofs.Common.{◌≡◌, ℕ, ◌%◌, ◌<◌, ◌≤◌, slice_index_or}
use Rattle.dr_store_bodies.specs.declared.extent.Extent.{Extent}
use Rattle.dr_store_bodies.specs.Extents.{end_of}
use Rattle.dr_store_bodies.specs.Place.{IsFirstPlace}
use Rattle.dr_store_bodies.proofs.place.place.Given as goal

abbrev pub invariant-loop-i : goal.invariant-loop-i
invariant-loop-i l =
    (l.at % 4096 ≡ 0)
    × ((k : ℕ) (d : Extent) → k < l.i → end_of (slice_index_or l.extents k d) ≤ l.at)
    × IsFirstPlace l.extents l.size l.at
