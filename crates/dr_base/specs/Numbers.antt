-- Numbers in decimal digits.
use Rattle.std.specs.Prelude.{◌≡◌, ◌<◌, ◌^◌, ℕ, decimal}
use Rattle.dr_base.specs.Texts.{Text}

-- the field is what the number is written as, without a sign or a leading zero, and the number fits
-- into so many bits
abbrev pub IsNumeral : ℕ → ℕ → Text → Type 0
IsNumeral bits n field = (decimal n ≡ field) × (n < 2 ^ bits)
