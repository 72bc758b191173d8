-- Bytes as a line of a log shows them.
use Rattle.std.specs.Prelude.{ℕ, List, [], ◌∷◌, ◌++◌, ◌==◌, ◌||◌, ◌/◌, ◌%◌}
use Rattle.std.specs.Prelude.{nat_le, codes, flat_map, if◌then◌else◌, length, take}
use Rattle.dr_base_quoted.specs.Quoting.{hex_digit, is_plain}

-- `\x` and both digits
abbrev pub byte_escape : ℕ → List ℕ
byte_escape b = 92 ∷ 120 ∷ hex_digit (b / 16) ∷ hex_digit (b % 16) ∷ []

-- A byte as it is shown, so that a text can be put between quotes: a line feed (10) is `\n`, a
-- quote and a backslash stand behind a backslash, and what else isn't plain has its digits
abbrev pub shown_byte : ℕ → List ℕ
shown_byte b =
    if is_plain b then b ∷ []
    else (if b == 10 then 92 ∷ 110 ∷ []
    else (if (b == 34) || (b == 92) then 92 ∷ b ∷ []
    else byte_escape b))

-- all bytes of a text
abbrev pub escaped_bytes : List ℕ → List ℕ
escaped_bytes text = flat_map shown_byte text

-- a text as it is shown: of one that has more than 128 bytes the first 128, with `\..` behind them,
-- which stands behind no text else
abbrev pub shown : List ℕ → List ℕ
shown text =
    if nat_le (length text) 128
    then escaped_bytes text
    else escaped_bytes (take 128 text) ++ codes "\\.."
