-- Fields of a line, each with what is behind it.
use Rattle.std.specs.Prelude.{ℕ, ◌<◌, ◌^◌, List, ◌∷◌, ◌++◌, length, codes, decimal}
use Rattle.dr_base.specs.Texts.{Text}
use Rattle.dr_base.specs.Syntaxes.{syntax_uid}
use Rattle.dr_base.specs.declared.syntax.Syntax.{Syntax}
use Rattle.hex.specs.Hex.{encode_lower}
use Rattle.dr_ledger.specs.declared.item.Cause.TheVariants as cause
use Rattle.dr_ledger.specs.declared.item.Progress.{Progress}
use Rattle.dr_ledger.specs.declared.item.Progress.TheVariants as progress

-- a number: a blank, its digits, and a colon
abbrev pub number_then : ℕ → Text → Text
number_then n rest = 32 ∷ (decimal n ++ 58 ∷ rest)

abbrev pub FitsNumber : ℕ → Type 0
FitsNumber n = n < 2 ^ 64

-- a text: how many bytes it has, and these
abbrev pub field_then : Text → Text → Text
field_then text rest = number_then (length text) (text ++ rest)

abbrev pub FitsField : Text → Type 0
FitsField text = length text < 2 ^ 64

-- a digest, in lower-case hex digits
abbrev pub digest_then : List ℕ → Text → Text
digest_then digest rest = field_then (encode_lower digest) rest

-- a transfer syntax, by its UID
abbrev pub syntax_then : Syntax → Text → Text
syntax_then syntax rest = field_then (syntax_uid syntax) rest

-- how far a row is
abbrev pub progress_then : Progress → Text → Text
progress_then (progress.Waiting tries due) rest =
    codes " waiting" ++ number_then tries (number_then due rest)
progress_then (progress.Held (cause.Status status)) rest =
    codes " status" ++ number_then status rest
progress_then (progress.Held cause.NoContext) rest = codes " no-context" ++ rest
progress_then (progress.Held cause.Unreadable) rest = codes " unreadable" ++ rest
progress_then progress.Done rest = codes " done" ++ rest
progress_then progress.Dropped rest = codes " dropped" ++ rest

abbrev pub FitsProgress : Progress → Type 0
FitsProgress (progress.Waiting tries due) = (tries < 2 ^ 32) × (due < 2 ^ 64)
FitsProgress (progress.Held (cause.Status status)) = status < 2 ^ 16
FitsProgress (progress.Held cause.NoContext) = Unit {0}
FitsProgress (progress.Held cause.Unreadable) = Unit {0}
FitsProgress progress.Done = Unit {0}
FitsProgress progress.Dropped = Unit {0}
