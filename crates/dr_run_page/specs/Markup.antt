-- Bytes that a peer sent, as characters of a document (HTML, "Syntax", 13.1).
use Rattle.std.specs.Prelude.{ℕ, ◌≡◌, false, ◌≤◌, ◌<◌, Bool, [], ◌∷◌, ◌==◌, ◌&&◌, ◌||◌}
use Rattle.std.specs.Prelude.{◌/◌, ◌%◌, not, nat_le, flat_map, if◌then◌else◌}
use Rattle.dr_base.specs.Texts.{Text}
use Rattle.dr_base_quoted.specs.Quoting.{hex_digit}

-- `<` (60), `>` (62), `&` (38) and both quotes (34, 39): what markup is made of
abbrev pub is_markup : ℕ → Bool
is_markup b = (b == 60) || (b == 62) || (b == 38) || (b == 34) || (b == 39)

-- A byte that stands as it is: a character of ASCII that prints, or a blank, but for those and a
-- backslash (92).
abbrev pub stands_in_markup : ℕ → Bool
stands_in_markup b = nat_le 32 b && nat_le b 126 && not (is_markup b) && not (b == 92)

-- what stands for a byte: itself, or a backslash, `x` and both digits
abbrev pub markup_byte : ℕ → Text
markup_byte b =
    if stands_in_markup b then b ∷ []
    else 92 ∷ 120 ∷ hex_digit (b / 16) ∷ hex_digit (b % 16) ∷ []

-- the same of all bytes of a text
abbrev pub in_markup : Text → Text
in_markup text = flat_map markup_byte text

-- a text in which nothing can begin or end markup: each byte is a character that prints
abbrev pub IsHarmlessByte : ℕ → Type 0
IsHarmlessByte b = (32 ≤ b) × (b < 127) × (is_markup b ≡ false)
