-- Rows as bytes.
use Rattle.std.specs.Prelude.{ℕ, List, [], ◌∷◌, ◌++◌, length, flat_map}
use Rattle.std.specs.Int.{w64, cast_unsigned, to_le_bytes}
use Rattle.sqlite_value.specs.declared.value.Value.{Value}
use Rattle.sqlite_value.specs.declared.value.Value.TheVariants.{Null, Int, Real, Text, Blob}

-- bytes behind their number, which is written in eight bytes, the lowest first
abbrev pub counted : List ℕ → List ℕ
counted bytes = to_le_bytes w64 (length bytes) ++ bytes

-- A cell as bytes, behind what tells its kind. Of a number that isn't whole only the kind counts:
-- no table of a ledger has one.
abbrev pub cell_text : Value → List ℕ
cell_text Null = 0 ∷ []
cell_text (Int n) = 1 ∷ to_le_bytes w64 (cast_unsigned w64 n)
cell_text (Real x) = 2 ∷ []
cell_text (Text t) = 3 ∷ counted t
cell_text (Blob b) = 4 ∷ counted b

-- a row of the table of that name
abbrev pub row_text : List ℕ → List Value → List ℕ
row_text table cells = counted table ++ flat_map cell_text cells
