-- Why a file was not found to have the extents that it is said to have.
use Rattle.std.specs.Prelude.{◌≡◌, List, length, false, IsTrue}
use Rattle.sqlite_disk.specs.declared.Disk.{Ghosts}
use Rattle.sqlite_disk.specs.Disk.{MoreFaults}
use Rattle.dr_store_bodies.specs.declared.extent.Extent.{Extent}
use Rattle.dr_store_bodies.specs.declared.fault.BodyFault.{BodyFault}
use Rattle.dr_store_bodies.specs.declared.fault.BodyFault.TheVariants as fault
use Rattle.dr_store_bodies.specs.Extents.{AreFit}

module _ {D : Type 0} (g : Ghosts D) where
  abbrev pub IsWhyNotFit : List Extent → D → D → BodyFault → Type 0
  IsWhyNotFit list old new (fault.Io error) = MoreFaults (g.faults old) (g.faults new)
  IsWhyNotFit list old new fault.Memory = ⊥
  IsWhyNotFit list old new fault.Unusable = (g.is_usable old ≡ false) × (new ≡ old)
  IsWhyNotFit list old new fault.Full = ⊥
  IsWhyNotFit list old new fault.Misfit =
      IsTrue (g.is_clean new) → AreFit list (length (g.seen old)) → ⊥
