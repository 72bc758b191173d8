-- Pages of texts that are read for lines of a past.
use Rattle.std.specs.Prelude.{◌≡◌, ◌+◌, ◌^◌, ◌<◌, ◌≤◌, ℕ, List, drop, length, take, All}
use Rattle.dr_base.specs.Texts.{Text}
use Rattle.dr_store_sealed.specs.declared.fault.SealFault.TheVariants as fault
use Rattle.dr_ledger_read.specs.Reading.{IsTextOf}
use Rattle.dr_store_past.specs.declared.fault.PastFault.{PastFault}
use Rattle.dr_store_past.specs.declared.fault.PastFault.TheVariants as why
use Rattle.dr_store_past.specs.declared.lines.PastLine.{PastLine}
use Rattle.dr_store_past.specs.Lines.{IsHeldPast, texts_behind}

-- these are the texts of those of the lines that come next behind so many
pub record IsPage (texts : List Text) (count : ℕ) (all : List PastLine) : Type 0 where
  pub held : All IsHeldPast all
  pub are : texts ≡ texts_behind count (take (length texts) (drop count all))
  pub within : count + length texts ≤ length all
  pub counted : length all < 2 ^ 64

-- why no line was read of a text: memory is wanting, or no line has it
abbrev pub IsWhyNoLine : Text → PastFault → Type 0
IsWhyNoLine text (why.Sealed fault.Memory) = Unit {0}
IsWhyNoLine text why.NoLine =
    (n : ℕ) (it : PastLine) → IsTextOf text n it.line it.moment → ⊥
IsWhyNoLine text other = ⊥

-- the same of texts: they are no lines with numbers in a row
abbrev pub IsWhyNoPage : List Text → PastFault → Type 0
IsWhyNoPage texts (why.Sealed fault.Memory) = Unit {0}
IsWhyNoPage texts why.NoLine =
    (n : ℕ) (lines : List PastLine) → All IsHeldPast lines → n + length lines < 2 ^ 64
    → texts ≡ texts_behind n lines → ⊥
IsWhyNoPage texts other = ⊥
