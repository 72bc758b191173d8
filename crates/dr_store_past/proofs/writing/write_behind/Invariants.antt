use Rattle.std.proofs.Common.{◌+◌, ◌-◌, ◌^◌, ◌<◌, ◌≡◌, ◌≤◌, length, take, All}
use Rattle.dr_store_line_files.specs.Filed.{place_behind}
use Rattle.dr_store_line_files.specs.Several.{KeepsFiles}
use Rattle.dr_store_past.specs.Lines.{FitsPast, texts_behind}
use Rattle.dr_store_past.specs.Shown.{ArePut}
use Rattle.dr_store_past.proofs.writing.write_behind.Given as goal

-- the lines so far
abbrev pub invariant-loop-done : goal.invariant-loop-done
invariant-loop-done g l =
    ArePut g.F.Disk.Disk l.initial.disks.items l.disks.items l.from (texts_behind l.from.count (take l.done l.lines)) l.last
    × KeepsFiles g.F.Disk.Disk (place_behind l.from) l.initial.disks.items l.disks.items
    × (l.done ≤ length l.lines)
    × All FitsPast (take l.done l.lines)
    × (l.last.count ≡ l.from.count + l.done)
    × (l.last.count < 2 ^ 64)

abbrev pub decreases-loop-done : goal.decreases-loop-done
decreases-loop-done g l = length l.lines - l.done
