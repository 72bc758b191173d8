-- What a file of lines shows, and why a call on it came to nothing.
use Rattle.std.specs.Prelude.{◌≡◌, ◌+◌, ◌^◌, ◌≤◌, ℕ, List, length, All, IsTrue}
use Rattle.sqlite_disk.specs.declared.Disk.{Ghosts}
use Rattle.sqlite_disk.specs.Disk.{MoreFaults}
use Rattle.dr_store_sealed.specs.declared.file.LineFile.{LineFile}
use Rattle.dr_store_sealed.specs.declared.seal.Seal.{Seal}
use Rattle.dr_store_sealed.specs.declared.fault.SealFault.{SealFault}
use Rattle.dr_store_sealed.specs.declared.fault.SealFault.TheVariants as fault
use Rattle.dr_store_sealed.specs.Files.{Endures, Spans}
use Rattle.dr_store_sealed.specs.Lines.{IsOneLine, bytes_of}
use Rattle.dr_store_sealed.specs.Seals.{full}

module _ {D : Type 0} where
  abbrev pub disk_of : LineFile D → D
  disk_of it = it.disk

  -- how far its lines go
  abbrev pub seal_of : LineFile D → Seal
  seal_of it = it.seal

module _ {D : Type 0} (g : Ghosts D) where
  -- what a read shows of the file
  abbrev pub shown : LineFile D → List ℕ
  shown it = g.seen it.disk

  -- behind `start` it has these lines, now and after a crash at this moment
  abbrev pub StillHas : LineFile D → Seal → List (List ℕ) → Type 0
  StillHas it start lines =
      Endures (g.seen it.disk) (g.may_leave it.disk) start.offset (bytes_of start.chain lines)

  -- these are all its lines, from `start` up to its seal, now and after a crash at this moment
  pub record IsHeld (it : LineFile D) (start : Seal) (lines : List (List ℕ)) : Type 0 where
    pub spans : Spans start lines it.seal
    pub endures : StillHas it start lines

  -- no wrong answer of the medium has been taken as true
  abbrev pub IsClean : LineFile D → Type 0
  IsClean it = IsTrue (g.is_clean it.disk)

  -- no sync has failed
  abbrev pub IsUsable : LineFile D → Type 0
  IsUsable it = IsTrue (g.is_usable it.disk)

  -- a sync failed before, and nothing was asked of the disk
  abbrev pub WasUnusable : D → D → Type 0
  WasUnusable old new = (IsTrue (g.is_usable old) → ⊥) × (new ≡ old)

  -- why lines were not written behind a seal into its file
  abbrev pub IsWhyNotAdded : Seal → List (List ℕ) → D → D → SealFault → Type 0
  IsWhyNotAdded seal lines old new (fault.Io error) = MoreFaults (g.faults old) (g.faults new)
  IsWhyNotAdded seal lines old new fault.Memory = new ≡ old
  IsWhyNotAdded seal lines old new fault.Unusable = WasUnusable old new
  IsWhyNotAdded seal lines old new fault.Unfit = (All IsOneLine lines → ⊥) × (new ≡ old)
  IsWhyNotAdded seal lines old new fault.Full = (full ≤ seal.offset) × (new ≡ old)
  IsWhyNotAdded seal lines old new fault.Uncounted =
      (2 ^ 64 ≤ seal.count + length lines) × (new ≡ old)
  IsWhyNotAdded seal lines old new other = ⊥

  -- the same of a file with its seal
  abbrev pub IsWhyNotAppended : List (List ℕ) → LineFile D → LineFile D → SealFault → Type 0
  IsWhyNotAppended lines old new why = IsWhyNotAdded old.seal lines old.disk new.disk why
