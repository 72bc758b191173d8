-- Contents of rows: sums of digests.
use Rattle.std.specs.Prelude.{ℕ, ◌+◌, ◌*◌, ◌%◌, ◌^◌, List, take, drop}
use Rattle.std.specs.List.{sum_by}
use Rattle.std.specs.Int.{w64, from_le_bytes}
use Rattle.sha2.specs.Sha256.{sha256}
use Rattle.dr_store_content.specs.declared.content.Content.{Content}

-- the number of 256 bits that a content is
abbrev pub amount : Content → ℕ
amount it = it.first + it.second * 2 ^ 64 + it.third * 2 ^ 128 + it.fourth * 2 ^ 192

-- 32 bytes as a number, the lowest first: four numbers of eight bytes
abbrev pub number_of : List ℕ → ℕ
number_of bytes =
    from_le_bytes w64 (take 8 bytes)
    + from_le_bytes w64 (take 8 (drop 8 bytes)) * 2 ^ 64
    + from_le_bytes w64 (take 8 (drop 16 bytes)) * 2 ^ 128
    + from_le_bytes w64 (take 8 (drop 24 bytes)) * 2 ^ 192

-- what a row adds, which is given as bytes
abbrev pub weight : List ℕ → ℕ
weight row = number_of (sha256 row)

-- the content of rows, which are given as bytes
abbrev pub content_of : List (List ℕ) → ℕ
content_of rows = sum_by weight rows % 2 ^ 256
