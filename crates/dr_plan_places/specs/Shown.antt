-- Texts as they are shown to people, between quotes.
use Rattle.std.specs.Prelude.{◌≡◌, ℕ, Bool, List, [], ◌∷◌, ◌++◌, ◌==◌, ◌&&◌, ◌||◌, ◌+◌, ◌/◌, ◌%◌}
use Rattle.std.specs.Prelude.{nat_le, nat_lt, flat_map, if◌then◌else◌, Option, Some, None, codes}
use Rattle.std.specs.Borrow.{Bor}
use Rattle.dr_base.specs.Texts.{Text}
use Rattle.dr_base_quoted.specs.Quoting.{hex_digit}

-- the byte is a character of ASCII that prints, or a blank
abbrev pub is_printable : ℕ → Bool
is_printable byte = nat_le 32 byte && nat_le byte 126

-- a byte between quotes: a quote (34) and a backslash (92) stand behind a backslash, and what isn't
-- printable stands as `\x` (92, 120) and its two digits
abbrev pub shown_byte : ℕ → Text
shown_byte byte =
    if (byte == 34) || (byte == 92) then 92 ∷ byte ∷ []
    else (if is_printable byte then byte ∷ []
    else 92 ∷ 120 ∷ hex_digit (byte / 16) ∷ hex_digit (byte % 16) ∷ [])

-- a text in quotes
abbrev pub shown : Text → Text
shown text = (34 ∷ flat_map shown_byte text) ++ (34 ∷ [])

-- a name in quotes, and a question mark for none
abbrev pub shown_name : Option (Bor Text) → Text
shown_name None = codes "?"
shown_name (Some name) = shown name.now

-- figures: plain bytes; a quote and a backslash; an escape, the last byte that isn't printable, and
-- the first one above ASCII
abbrev pub FiguresAreShown : Type 0
FiguresAreShown =
    (shown (codes "CT 1~") ≡ codes "\"CT 1~\"")
    × (shown (codes "a\"b\\") ≡ codes "\"a\\\"b\\\\\"")
    × (shown (27 ∷ 127 ∷ 128 ∷ []) ≡ codes "\"\\x1b\\x7f\\x80\"")
