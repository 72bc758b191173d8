use Rattle.std.proofs.Common.{◌≡◌, ◌-◌, ℕ, List, All, length}
use Rattle.dr_ledger.specs.Books.{Line}
use Rattle.dr_ledger_history.specs.Lines.{lines_of}
use Rattle.dr_store_line_files.specs.Filed.{InDisks}
use Rattle.dr_store_line_files.specs.Several.{AreClean, AreUsable, all_faults, all_shown}
use Rattle.dr_store_past.specs.Lines.{texts_behind}
use Rattle.dr_store_past.specs.Places.{NotesPlaces}
use Rattle.dr_store_past.specs.Shown.{IsPlaceIn, ShowsPast}
use Rattle.dr_store_past.proofs.Onward.{IsToldTo}
use Rattle.dr_store_past.proofs.reading.read_behind.Given as goal

-- what is found so far, and that a line begins at the place
abbrev pub invariant-loop-at : goal.invariant-loop-at
invariant-loop-at g l =
    (all_shown g.D.Disk l.disks.items ≡ all_shown g.D.Disk l.initial.disks.items)
    × (length l.disks.items ≡ length l.initial.disks.items)
    × ((number at : ℕ) (entry : List ℕ) → InDisks g.D.Disk l.initial.disks.items number at entry → InDisks g.D.Disk l.disks.items number at entry)
    × (AreClean g.D.Disk l.disks.items → AreClean g.D.Disk l.initial.disks.items)
    × (all_faults g.D.Disk l.disks.items ≡ all_faults g.D.Disk l.initial.disks.items)
    × (AreUsable g.D.Disk l.initial.disks.items → AreUsable g.D.Disk l.disks.items)
    × ((all : List Line)
    → AreClean g.D.Disk l.disks.items → (it : ShowsPast all (all_shown g.D.Disk l.initial.disks.items) l.seal)
    → All (IsPlaceIn (texts_behind 0 it.lines)) l.initial.places.items
    → IsToldTo all (texts_behind 0 it.lines) l.at l.after l.limit (lines_of l.found))
    × NotesPlaces (AreClean g.D.Disk l.disks.items) (all_shown g.D.Disk l.initial.disks.items) l.seal l.initial.places.items l.places.items

abbrev pub decreases-loop-at : goal.decreases-loop-at
decreases-loop-at g l = l.seal.count - l.at.count
