-- What a `Bodies` shows.
use Rattle.std.specs.Prelude.{ℕ, List, IsTrue}
use Rattle.sqlite_disk.specs.declared.Disk.{Ghosts}
use Rattle.dr_store_bodies.specs.declared.bodies.Bodies.{Bodies}
use Rattle.dr_store_bodies.specs.declared.extent.Extent.{Extent}
use Rattle.dr_store_bodies.specs.Extents.{Stand}

module _ {D : Type 0} {g : Ghosts D} where
  abbrev pub disk : Bodies D g → D
  disk it = it.disk

  -- the extents in use, in the order of their places
  abbrev pub extents : Bodies D g → List Extent
  extents it = it.extents.items

  -- what a read shows of the file
  abbrev pub seen : Bodies D g → List ℕ
  seen it = g.seen it.disk

  -- the extent holds these bytes, now and after a crash at this moment
  abbrev pub IsHeld : Bodies D g → Extent → List ℕ → Type 0
  IsHeld it e bytes = Stand (g.seen it.disk) (g.may_leave it.disk) e bytes

  -- no wrong answer of the medium has been taken as true
  abbrev pub IsClean : Bodies D g → Type 0
  IsClean it = IsTrue (g.is_clean it.disk)

  -- no sync has failed
  abbrev pub IsUsable : Bodies D g → Type 0
  IsUsable it = IsTrue (g.is_usable it.disk)

  -- how many calls of the disk have failed
  abbrev pub faults : Bodies D g → ℕ
  faults it = g.faults it.disk
