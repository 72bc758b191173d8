-- The lines that a file has, whatever a crash does.
use Rattle.std.specs.Prelude.{◌≡◌, ℕ, ◌+◌, ◌^◌, ◌<◌, List, length, All}
use Rattle.sqlite_disk.specs.Disk.{Holds}
use Rattle.dr_store_sealed.specs.declared.seal.Seal.{Seal}
use Rattle.dr_store_sealed.specs.Lines.{IsOneLine, bytes_of, mark_of}
use Rattle.dr_store_sealed.specs.Seals.{seal_after}

-- these bytes are there: in what is seen, and in each content that a crash may leave now
pub record Endures
    (seen : List ℕ) (may_leave : List ℕ → Type 0) (at : ℕ) (bytes : List ℕ) : Type 0 where
  pub now : Holds seen at bytes
  pub after_crash : (left : List ℕ) → may_leave left → Holds left at bytes

-- from one seal to another there is room in one file for just these lines
pub record Spans (start : Seal) (lines : List (List ℕ)) (last : Seal) : Type 0 where
  pub after : last ≡ seal_after start lines
  pub one_file : last.number ≡ start.number

-- a file has these lines, from the one seal to the other
pub record HasLines
    (seen : List ℕ) (start : Seal) (lines : List (List ℕ)) (last : Seal) : Type 0 where
  pub spans : Spans start lines last
  pub bytes : Holds seen start.offset (bytes_of start.chain lines)

-- the last line before the seal's place has the seal's chain, if there is one in the file
abbrev pub EndsAs : List ℕ → Seal → Type 0
EndsAs seen seal =
    0 < seal.offset
    → (at : ℕ)
    × (at + length (mark_of seal.chain) ≡ seal.offset)
    × Holds seen at (mark_of seal.chain)

-- from one seal to the other the file has lines with right chains, and a number of 64 bits counts
-- them
pub record HasRightLines (seen : List ℕ) (from last : Seal) : Type 0 where
  pub lines : List (List ℕ)
  pub are : All IsOneLine lines
  pub has : HasLines seen from lines last
  pub counted : last.count < 2 ^ 64

-- the same, up to some seal of that place
abbrev pub HasRightLinesTo : List ℕ → Seal → ℕ → Type 0
HasRightLinesTo seen from end = (last : Seal) × HasRightLines seen from last × (last.offset ≡ end)
