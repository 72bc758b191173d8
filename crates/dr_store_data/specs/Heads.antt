-- The head of the file, and what the tables have for its mark.
use Rattle.std.specs.Prelude.{◌≡◌, ℕ, ◌^◌, ◌<◌, List, ◌++◌, All, codes, drop, length, replicate}
use Rattle.std.specs.Prelude.{take}
use Rattle.std.specs.Int.{w64, from_le_bytes, to_le_bytes}
use Rattle.sqlite_disk.specs.Disk.{Holds}
use Rattle.dr_store_bodies.specs.declared.extent.Extent.{Extent}
use Rattle.dr_store_data.specs.declared.mark.DataMark.{DataMark}

-- a text of 16 bytes, the mark, and zeros up to 4,096 bytes
abbrev pub head_of : List ℕ → List ℕ
head_of mark = codes "Bitrusset data 1" ++ mark ++ replicate 4064 0

-- the file begins with the head of this mark
abbrev pub HasHead : List ℕ → List ℕ → Type 0
HasHead mark seen = Holds seen 0 (head_of mark)

-- the head's place
abbrev pub head_extent : Extent
head_extent = record { at = 0; size = 4096 }

-- the key in eight bytes, the lowest first, and the mark
abbrev pub bytes_of_mark : DataMark → List ℕ
bytes_of_mark mark = to_le_bytes w64 mark.key ++ mark.mark

-- these bytes say this key and this mark
pub record IsMarkOf (bytes : List ℕ) (said : DataMark) : Type 0 where
  pub long : length bytes ≡ 24
  pub key : said.key ≡ from_le_bytes w64 (take 8 bytes)
  pub mark : said.mark ≡ drop 8 bytes
