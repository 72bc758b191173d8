-- What a ledger's tables have for a seal.
use Rattle.std.specs.Prelude.{◌≡◌, ◌⊎◌, ◌<◌, ◌^◌, ℕ, List, [], ◌∷◌, ◌++◌, length, take, drop}
use Rattle.std.specs.Int.{w64, from_le_bytes, to_le_bytes}
use Rattle.dr_store_sealed.specs.declared.seal.Seal.{Seal}
use Rattle.dr_store_sealed.specs.Seals.{first_seal}

-- nothing, where no line has left the tables, or the 56 bytes that say how far those go that have
abbrev pub IsSealText : List ℕ → Type 0
IsSealText text = (text ≡ []) ⊎ (length text ≡ 56)

-- count, chain, number and offset: each number in eight bytes, the lowest first
abbrev pub bytes_of_seal : Seal → List ℕ
bytes_of_seal seal =
    to_le_bytes w64 seal.count ++ seal.chain
    ++ to_le_bytes w64 seal.number ++ to_le_bytes w64 seal.offset

-- the number in eight bytes from there on
abbrev pub number_at : ℕ → List ℕ → ℕ
number_at at bytes = from_le_bytes w64 (take 8 (drop at bytes))

-- the seal that a text says: the first one, where it is nothing
abbrev pub seal_said : List ℕ → Seal
seal_said [] = first_seal
seal_said (byte ∷ more) = record {
  count = number_at 0 (byte ∷ more);
  chain = take 32 (drop 8 (byte ∷ more));
  number = number_at 40 (byte ∷ more);
  offset = number_at 48 (byte ∷ more);
}

-- a seal as code has it: its numbers have 64 bits, and its chain has 32 bytes
pub record IsOfCode (seal : Seal) : Type 0 where
  pub count : seal.count < 2 ^ 64
  pub chain : length seal.chain ≡ 32
  pub number : seal.number < 2 ^ 64
  pub offset : seal.offset < 2 ^ 64
