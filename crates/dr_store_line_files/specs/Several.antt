-- What a call leaves of several files, and why it came to nothing.
use Rattle.std.specs.Prelude.{◌≡◌, ◌+◌, ◌^◌, ◌<◌, ◌≤◌, ◌++◌, ℕ, List, length, take, All, IsTrue}
use Rattle.std.specs.Prelude.{sum_by, slice_index_or, map as mapped, HoldsAt}
use Rattle.sqlite_disk.specs.declared.Disk.{Ghosts}
use Rattle.sqlite_disk.specs.Disk.{MoreFaults, Only}
use Rattle.dr_store_sealed.specs.declared.seal.Seal.{Seal}
use Rattle.dr_store_sealed.specs.declared.fault.SealFault.{SealFault}
use Rattle.dr_store_sealed.specs.declared.fault.SealFault.TheVariants as fault
use Rattle.dr_store_line_files.specs.Filed.{HaveLines}
use Rattle.dr_store_sealed.specs.Files.{Endures}
use Rattle.dr_store_sealed.specs.Lines.{IsOneLine}
use Rattle.dr_store_sealed.specs.Seals.{seal_after}

module _ {D : Type 0} (g : Ghosts D) where
  -- what reads show of the files
  abbrev pub all_shown : List D → List (List ℕ)
  all_shown disks = mapped (λ disk. g.seen disk) disks

  -- how many calls of the disks have failed
  abbrev pub all_faults : List D → ℕ
  all_faults disks = sum_by (λ disk. g.faults disk) disks

  -- no wrong answer of one has been taken as true
  abbrev pub AreClean : List D → Type 0
  AreClean disks = All (λ disk. IsTrue (g.is_clean disk)) disks

  -- no sync of one has failed
  abbrev pub AreUsable : List D → Type 0
  AreUsable disks = All (λ disk. IsTrue (g.is_usable disk)) disks

  -- a crash now leaves of each what it shows
  abbrev pub AreSynced : List D → Type 0
  AreSynced disks = All (λ disk. Only (g.seen disk) (g.may_leave disk)) disks

  -- All before that place stays, now and after a crash.
  pub record KeepsFile (at : ℕ) (old new : D) : Type 0 where
    pub before : (from : ℕ) (kept : List ℕ) → from + length kept ≤ at
        → Endures (g.seen old) (g.may_leave old) from kept
        → Endures (g.seen new) (g.may_leave new) from kept
    pub same : IsTrue (g.is_clean new) → take at (g.seen new) ≡ take at (g.seen old)
    pub clean : IsTrue (g.is_clean new) → IsTrue (g.is_clean old)

  -- The files before that of the place stay, and so does all before the place in its own.
  pub record KeepsFiles (place : Seal) (old new : List D) : Type 0 where
    pub longer : length old ≤ length new
    pub files : (k : ℕ) (disk : D) → k < place.number → k < length old
        → slice_index_or new k disk ≡ slice_index_or old k disk
    pub here : (disk : D) → place.number < length old
        → KeepsFile place.offset
        (slice_index_or old place.number disk) (slice_index_or new place.number disk)
    pub clean : AreClean new → AreClean old

  -- why lines were not added to a file behind a place
  abbrev pub IsWhyNotPutHere : ℕ → ℕ → List (List ℕ) → D → D → SealFault → Type 0
  IsWhyNotPutHere at count lines old new (fault.Io error) =
      MoreFaults (g.faults old) (g.faults new)
  IsWhyNotPutHere at count lines old new fault.Memory = Unit {0}
  IsWhyNotPutHere at count lines old new fault.Unusable = IsTrue (g.is_usable old) → ⊥
  IsWhyNotPutHere at count lines old new fault.Short =
      IsTrue (g.is_clean new) → length (g.seen old) < at
  IsWhyNotPutHere at count lines old new fault.Unfit = All IsOneLine lines → ⊥
  IsWhyNotPutHere at count lines old new fault.Uncounted = 2 ^ 64 ≤ count + length lines
  IsWhyNotPutHere at count lines old new other = ⊥

  -- why they were not added to the file of the place among several
  abbrev pub IsWhyNotPutIn : Seal → List (List ℕ) → List D → List D → SealFault → Type 0
  IsWhyNotPutIn place lines old new (fault.Io error) =
      MoreFaults (all_faults old) (all_faults new)
  IsWhyNotPutIn place lines old new fault.Memory = Unit {0}
  IsWhyNotPutIn place lines old new fault.Unusable = AreUsable old → ⊥
  IsWhyNotPutIn place lines old new fault.Short =
      AreClean new → HoldsAt (λ disk. length (g.seen disk) < place.offset) old place.number
  IsWhyNotPutIn place lines old new fault.Unfit = All IsOneLine lines → ⊥
  IsWhyNotPutIn place lines old new fault.Uncounted = 2 ^ 64 ≤ place.count + length lines
  IsWhyNotPutIn place lines old new other = ⊥

  -- These are the next lines of those files that have lines from the one seal to the other,
  -- whichever they have.
  abbrev pub AreNext : List D → Seal → Seal → List (List ℕ) → Seal → Type 0
  AreNext disks from last read next =
      (lines : List (List ℕ)) → HaveLines (all_shown disks) from lines last → All IsOneLine lines
      → last.count < 2 ^ 64
      → (more : List (List ℕ)) × (lines ≡ read ++ more) × (next ≡ seal_after from read)

  -- the files have lines from the one seal to the other
  pub record HaveRightLines (disks : List D) (from last : Seal) : Type 0 where
    pub lines : List (List ℕ)
    pub are : All IsOneLine lines
    pub has : HaveLines (all_shown disks) from lines last
    pub counted : last.count < 2 ^ 64

  -- Why the next lines were not read: a disk that told no lie has failed, or the files haven't
  -- lines up to the seal; or memory is wanting.
  abbrev pub IsWhyNotNext : Seal → Seal → List D → List D → SealFault → Type 0
  IsWhyNotNext from last old new (fault.Io error) =
      AreClean new → HaveRightLines old from last → MoreFaults (all_faults old) (all_faults new)
  IsWhyNotNext from last old new fault.Memory = Unit {0}
  IsWhyNotNext from last old new fault.Unusable = AreUsable old → ⊥
  IsWhyNotNext from last old new fault.Broken = AreClean new → HaveRightLines old from last → ⊥
  IsWhyNotNext from last old new fault.Unfit = AreClean new → HaveRightLines old from last → ⊥
  IsWhyNotNext from last old new fault.Uncounted = AreClean new → HaveRightLines old from last → ⊥
  IsWhyNotNext from last old new other = ⊥
