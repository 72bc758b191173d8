-- What is read of a sealed line's text.
use Rattle.std.specs.Prelude.{◌≡◌, ℕ, ◌<◌, ◌^◌, Option, Some, None, Result, Ok, Err}
use Rattle.dr_base.specs.Texts.{Text}
use Rattle.dr_ledger_history.specs.declared.line.JournalLine.{JournalLine}
use Rattle.dr_ledger_text.specs.Laws.{FitsMoment}
use Rattle.dr_ledger_text.specs.Lines.{sealed_text}
use Rattle.dr_ledger_read.specs.Held.{IsHeldLine}
use Rattle.dr_ledger_read.specs.Places.{ShowsLine}
use Rattle.dr_ledger_read.specs.declared.places.SealedPlaces.{SealedPlaces}
use Rattle.dr_ledger_read.specs.declared.reading.SealedLine.{SealedLine}

-- the text is that of this line, as the program holds it, with this number and this moment
pub record IsTextOf (text : Text) (n : ℕ) (line : JournalLine) (moment : Option ℕ) : Type 0 where
  pub number : n < 2 ^ 64
  pub held : IsHeldLine line
  pub written : FitsMoment moment
  pub is : text ≡ sealed_text n line moment

-- no line has this text, whatever its number and its moment
abbrev pub IsOfNoLine : Text → Type 0
IsOfNoLine text =
    (n : ℕ) (line : JournalLine) (moment : Option ℕ) → IsTextOf text n line moment → ⊥

abbrev pub IsOfSomeLine : Text → Type 0
IsOfSomeLine text =
    (n : ℕ) × (line : JournalLine) × (moment : Option ℕ) × IsTextOf text n line moment

-- the text is that of a line, which these places show
abbrev pub IsFound : Text → SealedPlaces → Type 0
IsFound text places =
    (line : JournalLine) × ShowsLine places.line line
    × IsTextOf text places.number line places.moment

-- what reading answers: the line that has the text, or that none has it; and want of memory only
-- where a line has it
abbrev pub Reads : {E : Type 0} → Text → Result (Option SealedLine) E → Type 0
Reads text (Ok (Some read)) = IsTextOf text read.number read.line read.moment
Reads text (Ok None) = IsOfNoLine text
Reads text (Err lack) = IsOfSomeLine text
