use Rattle.std.proofs.Common.{◌-◌, ◌≤◌, length, take}
use Rattle.dr_store_line_files.specs.Filed.{place_behind}
use Rattle.dr_store_line_files.specs.Several.{KeepsFiles}
use Rattle.dr_store_past.specs.Shown.{ArePut}
use Rattle.dr_store_past.proofs.writing.write_texts.Given as goal

-- the texts so far
abbrev pub invariant-loop-done : goal.invariant-loop-done
invariant-loop-done g l =
    ArePut g.F.Disk.Disk l.initial.disks.items l.disks.items l.from (take l.done l.texts) l.last
    × KeepsFiles g.F.Disk.Disk (place_behind l.from) l.initial.disks.items l.disks.items
    × (l.done ≤ length l.texts)

abbrev pub decreases-loop-done : goal.decreases-loop-done
decreases-loop-done g l = length l.texts - l.done
