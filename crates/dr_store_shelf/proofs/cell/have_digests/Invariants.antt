use Rattle.std.proofs.Common.{◌≡◌, ◌≤◌, ◌<◌, ◌+◌, ◌-◌, ◌*◌, ℕ, length, min}
use Rattle.sqlite_disk.specs.Digest.{digest}
use Rattle.dr_store_bodies.specs.Sums.{piece_of}
use Rattle.dr_store_shelf.specs.Cells.{sum_in}
use Rattle.dr_store_shelf.proofs.cell.have_digests.Given as goal

abbrev pub invariant-loop-from : goal.invariant-loop-from
invariant-loop-from l =
    (l.from ≡ min (length l.bytes) (l.index * 262144))
    × ((i : ℕ)
    → i < l.index
    → (24 + i * 8 ≤ length l.cell)
    × (sum_in l.cell i ≡ digest l.key (piece_of 262144 l.bytes i)))

abbrev pub decreases-loop-from : goal.decreases-loop-from
decreases-loop-from l = length l.bytes - l.from
