-- Texts between quotes, as JSON has them, and labels of Prometheus.
use Rattle.std.specs.Prelude.{ℕ, Bool, List, [], ◌∷◌, ◌++◌, ◌==◌, ◌&&◌, ◌||◌, ◌<◌, ◌+◌, ◌/◌, ◌%◌}
use Rattle.std.specs.Prelude.{not, nat_le, nat_lt, flat_map, if◌then◌else◌}
use Rattle.dr_base.specs.Texts.{Text}

-- a number of eight bits
abbrev pub IsByte : ℕ → Type 0
IsByte b = b < 256

-- A byte that stands as it is: a character of ASCII that prints, or a blank, but for a quote (34)
-- and a backslash (92).
abbrev pub is_plain : ℕ → Bool
is_plain b = nat_le 32 b && nat_le b 126 && not (b == 34) && not (b == 92)

-- 0 to 9, then a to f
abbrev pub hex_digit : ℕ → ℕ
hex_digit n = if nat_lt n 10 then 48 + n else 87 + n

-- `\u00` and both digits: the character of that number
abbrev pub hex_escape : ℕ → Text
hex_escape b = 92 ∷ 117 ∷ 48 ∷ 48 ∷ hex_digit (b / 16) ∷ hex_digit (b % 16) ∷ []

-- a byte between quotes: a line feed (10) is `\n`, a quote and a backslash stand behind a
-- backslash, and what else isn't plain has its digits
abbrev pub quoted_byte : ℕ → Text
quoted_byte b =
    if is_plain b then b ∷ []
    else (if b == 10 then 92 ∷ 110 ∷ []
    else (if (b == 34) || (b == 92) then 92 ∷ b ∷ []
    else hex_escape b))

-- the text between quotes
abbrev pub quoted : Text → Text
quoted text = (34 ∷ flat_map quoted_byte text) ++ (34 ∷ [])
