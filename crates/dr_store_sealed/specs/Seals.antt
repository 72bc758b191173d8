-- How far sealed lines go, and in which file the next one is.
use Rattle.std.specs.Prelude.{◌≡◌, ℕ, ◌+◌, ◌-◌, ◌<◌, ◌≤◌, nat_le, if◌then◌else◌}
use Rattle.std.specs.Prelude.{List, [], ◌∷◌, length, take, replicate}
use Rattle.dr_store_sealed.specs.declared.seal.Seal.{Seal}
use Rattle.dr_store_sealed.specs.Lines.{entry_of, next_chain}

-- a file with so many bytes takes no more lines
abbrev pub full : ℕ
full = 64000000

-- the seal of no lines: the first chain is 32 zeros
abbrev pub first_seal : Seal
first_seal = record { count = 0; chain = replicate 32 0; number = 0; offset = 0 }

-- the same at the beginning of the next file
abbrev pub turned : Seal → Seal
turned seal =
    record { count = seal.count; chain = seal.chain; number = seal.number + 1; offset = 0 }

-- the seal after one more line, which goes into the same file, or into the next where that is full
abbrev pub next_seal : Seal → List ℕ → Seal
next_seal seal line =
    record {
      count = seal.count + 1;
      chain = next_chain seal.chain line;
      number = if nat_le full seal.offset then seal.number + 1 else seal.number;
      offset = (if nat_le full seal.offset then 0 else seal.offset)
          + length (entry_of seal.chain line);
    }

-- the seal after some more lines
abbrev pub seal_after : Seal → List (List ℕ) → Seal
seal_after seal [] = seal
seal_after seal (line ∷ lines) = seal_after (next_seal seal line) lines

-- this is how far all lines of a ledger go that were sealed, in their order
abbrev pub IsSealedBy : List (List ℕ) → Seal → Type 0
IsSealedBy lines seal = seal ≡ seal_after first_seal lines

-- those of the lines that lie between two seals
abbrev pub lines_between : Seal → Seal → List (List ℕ) → List (List ℕ)
lines_between seal last lines = take (last.count - seal.count) lines

-- Behind `seal` those of the lines were taken, up to `last`, that begin in its file: all, or as
-- many as make it full.
pub record TakesLines (seal : Seal) (lines : List (List ℕ)) (last : Seal) : Type 0 where
  pub after : last ≡ seal_after seal (lines_between seal last lines)
  pub one_file : last.number ≡ seal.number
  pub full : last.count < seal.count + length lines → full ≤ last.offset
