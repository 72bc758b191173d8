-- The next lines of the file of a place.
use Rattle.std.specs.Prelude.{◌≡◌, ◌<◌, ◌≤◌, ℕ, List, length, IsTrue}
use Rattle.sqlite_disk.specs.declared.Disk.{Ghosts}
use Rattle.sqlite_disk.specs.Disk.{MoreFaults}
use Rattle.dr_store_sealed.specs.declared.seal.Seal.{Seal}
use Rattle.dr_store_sealed.specs.declared.fault.SealFault.{SealFault}
use Rattle.dr_store_sealed.specs.declared.fault.SealFault.TheVariants as fault
use Rattle.dr_store_sealed.specs.Files.{HasLines, HasRightLinesTo}

-- where the lines of the place's file end: at the last seal if that is in it, or with the file
pub record IsEnd (seen : List ℕ) (place last : Seal) (end : ℕ) : Type 0 where
  pub same : place.number ≡ last.number → end ≡ last.offset
  pub other : (place.number ≡ last.number → ⊥) → end ≡ length seen

-- the file has these lines behind the place, and they don't go beyond that end
pub record ReadsTo
    (seen : List ℕ) (place last : Seal) (lines : List (List ℕ)) (next : Seal) : Type 0 where
  pub has : HasLines seen place lines next
  pub within : (end : ℕ) → IsEnd seen place last end → next.offset ≤ end

-- behind the place it has lines up to that end, at least one
pub record GoesOnTo (seen : List ℕ) (place last : Seal) : Type 0 where
  pub end : ℕ
  pub is : IsEnd seen place last end
  pub some : place.offset < end
  pub right : HasRightLinesTo seen place end

module _ {D : Type 0} (g : Ghosts D) where
  -- why the next lines of the file were not read
  abbrev pub IsWhyNotReadHere : Seal → Seal → D → D → SealFault → Type 0
  IsWhyNotReadHere place last old new (fault.Io error) =
      IsTrue (g.is_clean new) → GoesOnTo (g.seen old) place last
      → MoreFaults (g.faults old) (g.faults new)
  IsWhyNotReadHere place last old new fault.Memory = Unit {0}
  IsWhyNotReadHere place last old new fault.Unusable = IsTrue (g.is_usable old) → ⊥
  IsWhyNotReadHere place last old new fault.Broken =
      IsTrue (g.is_clean new) → GoesOnTo (g.seen old) place last → ⊥
  IsWhyNotReadHere place last old new fault.Unfit =
      IsTrue (g.is_clean new) → GoesOnTo (g.seen old) place last → ⊥
  IsWhyNotReadHere place last old new fault.Uncounted =
      IsTrue (g.is_clean new) → GoesOnTo (g.seen old) place last → ⊥
  IsWhyNotReadHere place last old new other = ⊥
