use Rattle.std.proofs.Common.{◌+◌, ◌-◌, length}
use Rattle.dr_store_line_files.specs.Several.{AreSynced, AreUsable}
use Rattle.dr_store_past.proofs.opening.open_files.Given as goal

-- the files so far
abbrev pub invariant-loop-alloc : goal.invariant-loop-alloc
invariant-loop-alloc g l = AreSynced g.F.Disk.Disk l.disks.items × AreUsable g.F.Disk.Disk l.disks.items

abbrev pub decreases-loop-alloc : goal.decreases-loop-alloc
decreases-loop-alloc g l = (l.seal.number + 1) - length l.disks.items
