-- Why a call on a file of data sets came to nothing.
use Rattle.std.specs.Prelude.{◌≡◌, ◌+◌, ◌^◌, ◌≤◌, ℕ, length}
use Rattle.sqlite_disk.specs.declared.Disk.{Ghosts}
use Rattle.sqlite_disk.specs.Disk.{MoreFaults}
use Rattle.dr_store_bodies.specs.declared.bodies.Bodies.{Bodies}
use Rattle.dr_store_bodies.specs.declared.fault.BodyFault.{BodyFault}
use Rattle.dr_store_bodies.specs.declared.fault.BodyFault.TheVariants as fault
use Rattle.dr_store_bodies.specs.Bodies.{disk, extents, faults, seen, IsClean, IsUsable}
use Rattle.dr_store_bodies.specs.Place.{IsFull}

module _ {D : Type 0} {g : Ghosts D} where
  -- a sync failed before, and nothing was asked of the disk
  abbrev pub WasUnusable : Bodies D g → Bodies D g → Type 0
  WasUnusable old new = (IsUsable old → ⊥) × (disk new ≡ disk old)

  -- why so many bytes were not put
  abbrev pub IsWhyNotPut : ℕ → Bodies D g → Bodies D g → BodyFault → Type 0
  IsWhyNotPut size old new (fault.Io error) = MoreFaults (faults old) (faults new)
  IsWhyNotPut size old new fault.Memory = faults new ≡ faults old
  IsWhyNotPut size old new fault.Unusable = WasUnusable old new
  IsWhyNotPut size old new fault.Full = IsFull (extents old) size × (disk new ≡ disk old)
  IsWhyNotPut size old new fault.Misfit = ⊥

  -- why an extent within the file was not read: a place that no `usize` names is in no such file
  abbrev pub IsWhyNotRead : ℕ → ℕ → Bodies D g → Bodies D g → BodyFault → Type 0
  IsWhyNotRead at size old new (fault.Io error) =
      IsClean old → at + size ≤ length (seen old) → MoreFaults (faults old) (faults new)
  IsWhyNotRead at size old new fault.Memory = ⊥
  IsWhyNotRead at size old new fault.Unusable = WasUnusable old new
  IsWhyNotRead at size old new fault.Full = ⊥
  IsWhyNotRead at size old new fault.Misfit = (2 ^ 64 ≤ at) × (disk new ≡ disk old)

  -- why the file was not cut behind its last extent
  abbrev pub IsWhyNotCut : Bodies D g → Bodies D g → BodyFault → Type 0
  IsWhyNotCut old new (fault.Io error) = MoreFaults (faults old) (faults new)
  IsWhyNotCut old new fault.Memory = ⊥
  IsWhyNotCut old new fault.Unusable = WasUnusable old new
  IsWhyNotCut old new fault.Full = ⊥
  IsWhyNotCut old new fault.Misfit = ⊥
