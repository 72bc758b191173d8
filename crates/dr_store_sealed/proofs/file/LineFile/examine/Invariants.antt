use Rattle.std.proofs.Common.{◌≡◌, ◌≤◌, ◌-◌, All, List, ℕ, IsTrue}
use Rattle.dr_store_sealed.specs.declared.seal.Seal.{Seal}
use Rattle.dr_store_sealed.specs.Files.{HasLines}
use Rattle.dr_store_sealed.specs.Held.{IsHeld}
use Rattle.dr_store_sealed.specs.Lines.{IsOneLine}
use Rattle.dr_store_sealed.proofs.file.LineFile.examine.Given as goal

-- the lines so far
abbrev pub invariant-loop-at : goal.invariant-loop-at
invariant-loop-at g l =
    (l.self.seal ≡ l.initial.self.seal)
    × (g.D.Disk.seen l.self.disk ≡ g.D.Disk.seen l.initial.self.disk)
    × (IsTrue (g.D.Disk.is_clean l.self.disk) → IsTrue (g.D.Disk.is_clean l.initial.self.disk))
    × ((first : Seal) (before : List (List ℕ)) → IsHeld g.D.Disk l.initial.self first before → IsHeld g.D.Disk l.self first before)
    × (IsTrue (g.D.Disk.is_clean l.self.disk)
    → (lines : List (List ℕ)) × (All IsOneLine lines × HasLines (g.D.Disk.seen l.self.disk) l.start lines l.at))
    × (l.at.offset ≤ l.self.seal.offset)
    × (g.D.Disk.faults l.self.disk ≡ g.D.Disk.faults l.initial.self.disk)
    × IsTrue (g.D.Disk.is_usable l.self.disk)

abbrev pub decreases-loop-at : goal.decreases-loop-at
decreases-loop-at g l = l.self.seal.offset - l.at.offset
