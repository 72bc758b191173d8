use Rattle.std.proofs.Common.{◌≡◌, ℕ, ◌-◌, ◌*◌, ◌<◌, length, min, slice_index}
use Rattle.sqlite_disk.specs.Digest.{digest}
use Rattle.dr_store_bodies.specs.Sums.{piece_of}
use Rattle.dr_store_bodies.proofs.sums.sums_of.Given as goal

abbrev pub invariant-loop-from : goal.invariant-loop-from
invariant-loop-from l =
    (l.from ≡ min (length l.body) (length l.sums.items * 262144))
    × ((i : ℕ) → i < length l.sums.items → i * 262144 < length l.body)
    × ((i : ℕ)
    → i < length l.sums.items
    → slice_index l.sums.items i ≡ digest l.key (piece_of 262144 l.body i))

abbrev pub decreases-loop-from : goal.decreases-loop-from
decreases-loop-from l = length l.body - l.from
