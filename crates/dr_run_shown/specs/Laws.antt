-- What holds of all that is shown.
use Rattle.std.specs.Prelude.{◌≡◌, ◌≤◌, ℕ, List, All, IsTrue, length}
use Rattle.dr_base_quoted.specs.Quoting.{IsByte, is_plain}
use Rattle.dr_run_shown.specs.Showing.{shown}

-- a character of ASCII that prints, or a blank: no line ends with it, and no terminal does anything
-- at it
abbrev pub IsPrintable : ℕ → Type 0
IsPrintable b = (32 ≤ b) × (b ≤ 126)

-- whatever was sent, nothing else is shown
abbrev pub OnlyPrintsText : Type 0
OnlyPrintsText = (text : List ℕ) → All IsByte text → All IsPrintable (shown text)

-- what needs no escape, and isn't long, stands as it is
abbrev pub PlainStands : Type 0
PlainStands = (text : List ℕ)
    → All (λ b. IsTrue (is_plain b)) text → length text ≤ 128 → shown text ≡ text

-- two texts that aren't long and are shown alike are the same text
abbrev pub HasOneForm : Type 0
HasOneForm = (these those : List ℕ)
    → All IsByte these → All IsByte those → length these ≤ 128 → length those ≤ 128
    → shown these ≡ shown those → these ≡ those

-- however long a text is, what is shown of it isn't
abbrev pub IsBounded : Type 0
IsBounded = (text : List ℕ) → length (shown text) ≤ 515
