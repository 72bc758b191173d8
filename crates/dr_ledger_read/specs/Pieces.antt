-- Pieces of a line's text: bytes and texts in quotes, numbers, and names.
use Rattle.std.specs.Prelude.{◌≡◌, ℕ, ◌<◌, ◌^◌, ◌⊎◌, List, ◌∷◌, ◌++◌, All, decimal, flat_map}
use Rattle.std.specs.Prelude.{slice_index}
use Rattle.dr_base.specs.Texts.{Text}
use Rattle.dr_base_quoted.specs.Quoting.{IsByte, hex_escape, quoted, quoted_byte}
use Rattle.dr_ledger_text.specs.Lines.{further_name, names_text}

-- a text as the program has it: its numbers are bytes
abbrev pub AreBytes : Text → Type 0
AreBytes text = All IsByte text

-- the text is a byte as it stands between quotes, and `rest` behind it
abbrev pub IsQuotedByte : Text → ℕ → Text → Type 0
IsQuotedByte text byte rest = IsByte byte × (text ≡ quoted_byte byte ++ rest)

-- the same of a byte that has its digits
abbrev pub IsEscaped : Text → ℕ → Text → Type 0
IsEscaped text byte rest =
    IsByte byte × (quoted_byte byte ≡ hex_escape byte) × (text ≡ hex_escape byte ++ rest)

-- the text is these bytes, the value in quotes, and `rest`
abbrev pub IsWord : Text → Text → Text → Text → Type 0
IsWord start text value rest = AreBytes value × (text ≡ start ++ (quoted value ++ rest))

-- the text is that value in quotes, and `rest` behind it
abbrev pub IsQuoted : Text → Text → Text → Type 0
IsQuoted text value rest = AreBytes value × (text ≡ quoted value ++ rest)

-- at this place, behind a quote, the value stands, and a quote
abbrev pub Holds : Text → Text → Type 0
Holds place value =
    (rest : Text) × AreBytes value × (place ≡ flat_map quoted_byte value ++ 34 ∷ rest)

-- no digit stands first: those of a number before it end there
pub record EndsDigits (text : Text) : Type 0 where
  pub it : (slice_index text 0 < 48) ⊎ (57 < slice_index text 0)

-- the text is a number of 64 bits, and `rest`, which goes on with no digit, is behind it
abbrev pub IsNumber : Text → ℕ → Text → Type 0
IsNumber text n rest = (n < 2 ^ 64) × EndsDigits rest × (text ≡ decimal n ++ rest)

-- the text is these bytes, such a number, and `rest`
abbrev pub IsCount : Text → Text → ℕ → Text → Type 0
IsCount start text n rest = (n < 2 ^ 64) × EndsDigits rest × (text ≡ start ++ (decimal n ++ rest))

-- the text is names, each behind a comma, a bracket, and `rest`
abbrev pub IsFurther : Text → List Text → Text → Type 0
IsFurther text names rest = All AreBytes names × (text ≡ flat_map further_name names ++ 93 ∷ rest)

-- the text is names one behind the other, a bracket, and `rest`
abbrev pub IsNames : Text → List Text → Text → Type 0
IsNames text names rest = All AreBytes names × (text ≡ names_text names ++ 93 ∷ rest)
