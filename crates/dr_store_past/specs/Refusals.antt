-- Why lines of a past were not written or read.
use Rattle.std.specs.Prelude.{◌≡◌, ◌+◌, ◌^◌, ◌<◌, ◌≤◌, ℕ, List, length, take, All, HoldsAt}
use Rattle.sqlite_disk.specs.declared.Disk.{Ghosts}
use Rattle.sqlite_disk.specs.Disk.{MoreFaults}
use Rattle.dr_store_sealed.specs.declared.fault.SealFault.{SealFault}
use Rattle.dr_store_sealed.specs.declared.fault.SealFault.TheVariants as fault
use Rattle.dr_store_sealed.specs.declared.seal.Seal.{Seal}
use Rattle.dr_store_sealed.specs.Lines.{IsOneLine}
use Rattle.dr_store_sealed.specs.Seals.{full, seal_after}
use Rattle.dr_store_line_files.specs.Several.{AreClean, AreUsable, all_faults}
use Rattle.dr_store_past.specs.declared.fault.PastFault.{PastFault}
use Rattle.dr_store_past.specs.declared.fault.PastFault.TheVariants as why
use Rattle.dr_store_past.specs.declared.lines.PastLine.{PastLine}
use Rattle.dr_store_past.specs.Lines.{texts_behind}

-- why a line got no text
abbrev pub IsWhyNoText : ℕ → SealFault → Type 0
IsWhyNoText after fault.Memory = Unit {0}
IsWhyNoText after fault.Uncounted = 2 ^ 64 ≤ after + 1
IsWhyNoText after other = ⊥

-- why lines got no texts
abbrev pub IsWhyNoTexts : ℕ → List PastLine → SealFault → Type 0
IsWhyNoTexts after lines fault.Memory = Unit {0}
IsWhyNoTexts after lines fault.Uncounted = 2 ^ 64 ≤ after + length lines
IsWhyNoTexts after lines other = ⊥

-- behind the seal a file is full with the first of these texts, or with none
pub record FillsFile (from : Seal) (texts : List (List ℕ)) (last : Seal) : Type 0 where
  pub count : ℕ
  pub after : last ≡ seal_after from (take count texts)
  pub full : full ≤ last.offset

module _ {D : Type 0} (g : Ghosts D) where
  -- Why texts were not put behind a seal: a call of a disk failed, or memory is wanting; a sync
  -- failed before; the seal's file is shorter; a text is too long for a line; no number is left
  -- for a line, or for the next file; or the next file can't be had.
  abbrev pub IsWhyNotPut : List D → List D → Seal → List (List ℕ) → PastFault → Type 0
  IsWhyNotPut old new from texts (why.Sealed (fault.Io error)) =
      MoreFaults (all_faults g old) (all_faults g new)
  IsWhyNotPut old new from texts (why.Sealed fault.Memory) = Unit {0}
  IsWhyNotPut old new from texts (why.Sealed fault.Unusable) = AreUsable g old → ⊥
  IsWhyNotPut old new from texts (why.Sealed fault.Short) =
      AreClean g new → HoldsAt (λ disk. length (g.seen disk) < from.offset) old from.number
  IsWhyNotPut old new from texts (why.Sealed fault.Unfit) = All IsOneLine texts → ⊥
  IsWhyNotPut old new from texts (why.Sealed fault.Uncounted) = 2 ^ 64 ≤ from.count + length texts
  IsWhyNotPut old new from texts (why.Sealed fault.Full) =
      (last : Seal) × FillsFile from texts last × (last.number + 1 ≡ 2 ^ 64)
  IsWhyNotPut old new from texts (why.File fault) = (last : Seal) × FillsFile from texts last
  IsWhyNotPut old new from texts other = ⊥

-- why there is no place for the next line behind a seal
abbrev pub IsWhyNoPlace : Seal → PastFault → Type 0
IsWhyNoPlace seal (why.Sealed fault.Memory) = Unit {0}
IsWhyNoPlace seal (why.Sealed fault.Full) = (full ≤ seal.offset) × (seal.number + 1 ≡ 2 ^ 64)
IsWhyNoPlace seal (why.File fault) = full ≤ seal.offset
IsWhyNoPlace seal other = ⊥

-- Why lines were not written behind a past: a call of a disk failed, or memory is wanting; a sync
-- failed before; a file is shorter than the past; a text is too long for a line; or no number is
-- left for a line, or for the next file. `within` says that the files have the past.
abbrev pub IsWhyNotSealed : (within usable : Type 0) → (old new : ℕ) → Seal → List PastLine
    → SealFault → Type 0
IsWhyNotSealed within usable old new from lines (fault.Io error) = MoreFaults old new
IsWhyNotSealed within usable old new from lines fault.Memory = Unit {0}
IsWhyNotSealed within usable old new from lines fault.Unusable = usable → ⊥
IsWhyNotSealed within usable old new from lines fault.Short = within → ⊥
IsWhyNotSealed within usable old new from lines fault.Unfit =
    All IsOneLine (texts_behind from.count lines) → ⊥
IsWhyNotSealed within usable old new from lines fault.Uncounted =
    2 ^ 64 ≤ from.count + length lines
IsWhyNotSealed within usable old new from lines fault.Full =
    (last : Seal) × FillsFile from (texts_behind from.count lines) last
    × (last.number + 1 ≡ 2 ^ 64)
IsWhyNotSealed within usable old new from lines other = ⊥

-- the same of a past, into which lines can be sealed at all, or none can
abbrev pub IsWhyNotWritten : (takes clean usable : Type 0) → (old new : ℕ) → Seal
    → List PastLine → PastFault → Type 0
IsWhyNotWritten takes clean usable old new from lines (why.Sealed fault) =
    IsWhyNotSealed clean usable old new from lines fault
IsWhyNotWritten takes clean usable old new from lines (why.File fault) =
    (last : Seal) × FillsFile from (texts_behind from.count lines) last
IsWhyNotWritten takes clean usable old new from lines why.Nowhere = takes → ⊥
IsWhyNotWritten takes clean usable old new from lines other = ⊥

-- why the bytes of lines were not read
abbrev pub IsWhyUnread : (clean usable : Type 0) → (old new : ℕ) → SealFault → Type 0
IsWhyUnread clean usable old new (fault.Io error) = clean → MoreFaults old new
IsWhyUnread clean usable old new fault.Memory = Unit {0}
IsWhyUnread clean usable old new fault.Unusable = usable → ⊥
IsWhyUnread clean usable old new fault.Broken = clean → ⊥
IsWhyUnread clean usable old new fault.Unfit = clean → ⊥
IsWhyUnread clean usable old new fault.Uncounted = clean → ⊥
IsWhyUnread clean usable old new other = ⊥

-- Why lines of a past were not read: a call of the disk failed, or memory is wanting; a sync failed
-- before; or what is shown isn't the past.
abbrev pub IsWhyNotTold : (clean usable : Type 0) → (old new : ℕ) → PastFault → Type 0
IsWhyNotTold clean usable old new (why.Sealed fault) = IsWhyUnread clean usable old new fault
IsWhyNotTold clean usable old new why.NoLine = clean → ⊥
IsWhyNotTold clean usable old new other = ⊥
