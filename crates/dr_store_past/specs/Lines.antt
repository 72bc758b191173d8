-- Lines of a past, their texts, and what they say.
use Rattle.std.specs.Prelude.{◌+◌, ℕ, List, [], ◌∷◌, take, map as mapped}
use Rattle.dr_ledger.specs.Books.{Line}
use Rattle.dr_ledger_history.specs.Lines.{line_of}
use Rattle.dr_ledger_read.specs.Held.{IsHeldLine}
use Rattle.dr_ledger_text.specs.Laws.{FitsLine, FitsMoment}
use Rattle.dr_ledger_text.specs.Lines.{sealed_text}
use Rattle.dr_store_sealed.specs.declared.seal.Seal.{Seal}
use Rattle.dr_store_past.specs.declared.lines.PastLine.{PastLine}

-- the texts of lines whose numbers follow that one
abbrev pub texts_behind : ℕ → List PastLine → List (List ℕ)
texts_behind after [] = []
texts_behind after (line ∷ lines) =
    sealed_text (after + 1) line.line line.moment ∷ texts_behind (after + 1) lines

-- the line of a book that it is
abbrev pub said_by : PastLine → Line
said_by line = line_of line.line

abbrev pub all_said : List PastLine → List Line
all_said lines = mapped said_by lines

-- as many of all lines as the seal counts
abbrev pub past_in : List Line → Seal → List Line
past_in all seal = take seal.count all

-- its numbers fit
abbrev pub FitsPast : PastLine → Type 0
FitsPast line = FitsLine line.line × FitsMoment line.moment

-- it is as the program holds it
abbrev pub IsHeldPast : PastLine → Type 0
IsHeldPast line = IsHeldLine line.line × FitsMoment line.moment
