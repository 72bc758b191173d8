use Rattle.std.proofs.Common.{◌≡◌, ◌≤◌, ◌-◌, All, List, ℕ, IsTrue}
use Rattle.dr_store_sealed.specs.Files.{HasLines}
use Rattle.dr_store_sealed.specs.Lines.{IsOneLine}
use Rattle.dr_store_sealed.proofs.scanning.scan.Given as goal

-- the lines so far
abbrev pub invariant-loop-at : goal.invariant-loop-at
invariant-loop-at g l =
    (g.D.Disk.seen l.file ≡ g.D.Disk.seen l.initial.file)
    × (IsTrue (g.D.Disk.is_clean l.file) → IsTrue (g.D.Disk.is_clean l.initial.file))
    × ((left : List ℕ) → g.D.Disk.may_leave l.file left → g.D.Disk.may_leave l.initial.file left)
    × (l.at.offset ≤ l.size)
    × (IsTrue (g.D.Disk.is_clean l.file)
    → (lines : List (List ℕ)) × (All IsOneLine lines × HasLines (g.D.Disk.seen l.file) l.start lines l.at))
    × (g.D.Disk.faults l.file ≡ g.D.Disk.faults l.initial.file)
    × IsTrue (g.D.Disk.is_usable l.file)

abbrev pub decreases-loop-at : goal.decreases-loop-at
decreases-loop-at g l = l.size - l.at.offset
