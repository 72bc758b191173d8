-- Lines in several files, one behind another.
use Rattle.std.specs.Prelude.{◌≡◌, ℕ, ◌+◌, ◌<◌, ◌≤◌, nat_le, if◌then◌else◌}
use Rattle.std.specs.Prelude.{List, [], ◌∷◌, length, slice_index_or, HoldsAt}
use Rattle.sqlite_disk.specs.declared.Disk.{Ghosts}
use Rattle.sqlite_disk.specs.Disk.{Holds}
use Rattle.dr_store_sealed.specs.declared.seal.Seal.{Seal}
use Rattle.dr_store_sealed.specs.Lines.{entry_of}
use Rattle.dr_store_sealed.specs.Seals.{full, next_seal, seal_after, turned}

-- The file has the bytes of a line at that place. Where they make it full, it ends behind them.
pub record HasEntryAt (file : List ℕ) (at : ℕ) (entry : List ℕ) : Type 0 where
  pub bytes : Holds file at entry
  pub closed : full ≤ at + length entry → length file ≡ at + length entry

-- the same, now and in each content that a crash may leave
pub record EntryEndures
    (seen : List ℕ) (may_leave : List ℕ → Type 0) (at : ℕ) (entry : List ℕ) : Type 0 where
  pub now : HasEntryAt seen at entry
  pub after_crash : (left : List ℕ) → may_leave left → HasEntryAt left at entry

-- where the next line begins: at the seal's place, or in the next file if that of the seal is full
abbrev pub place_behind : Seal → Seal
place_behind seal = if nat_le full seal.offset then turned seal else seal

abbrev pub next_offset : Seal → ℕ
next_offset seal = if nat_le full seal.offset then 0 else seal.offset

-- Behind the seal, the bytes of each line are in the file that its number says, at its place there.
abbrev pub AreFiled : (ℕ → ℕ → List ℕ → Type 0) → Seal → List (List ℕ) → Type 0
AreFiled Has seal [] = Unit {0}
AreFiled Has seal (line ∷ lines) =
    Has (next_seal seal line).number (next_offset seal) (entry_of seal.chain line)
    × AreFiled Has (next_seal seal line) lines

-- that one of the files has it
abbrev pub InFiles : List (List ℕ) → ℕ → ℕ → List ℕ → Type 0
InFiles files number at entry = HasEntryAt (slice_index_or files number []) at entry

-- files have these lines, from the one seal to the other
pub record HaveLines
    (files : List (List ℕ)) (start : Seal) (lines : List (List ℕ)) (last : Seal) : Type 0 where
  pub after : last ≡ seal_after start lines
  pub filed : AreFiled (InFiles files) start lines

module _ {D : Type 0} (g : Ghosts D) where
  -- that one of the disks has it, and keeps it through a crash
  abbrev pub InDisks : List D → ℕ → ℕ → List ℕ → Type 0
  InDisks disks number at entry =
      (number < length disks)
      × HoldsAt (λ disk. EntryEndures (g.seen disk) (g.may_leave disk) at entry) disks number

  -- disks have these lines, from the one seal to the other, now and after a crash
  pub record KeepLines
      (disks : List D) (start : Seal) (lines : List (List ℕ)) (last : Seal) : Type 0 where
    pub after : last ≡ seal_after start lines
    pub filed : AreFiled (InDisks disks) start lines

  -- a crash may leave these contents of the disks
  pub record MayLeave (disks : List D) (left : List (List ℕ)) : Type 0 where
    pub size : length left ≡ length disks
    pub each : (k : ℕ) (disk : D) (file : List ℕ) → k < length disks
        → g.may_leave (slice_index_or disks k disk) (slice_index_or left k file)
