-- Laws of reading a sealed line.
use Rattle.std.specs.Prelude.{◌≡◌, ℕ, [], ◌++◌, Option, None, Some, Result, Ok, Err, codes}
use Rattle.dr_base.specs.Texts.{Text}
use Rattle.dr_ledger_history.specs.declared.line.JournalLine.{JournalLine}
use Rattle.dr_ledger_history.specs.declared.line.JournalLine.TheVariants as told
use Rattle.dr_ledger_text.specs.Laws.{AreSame, tried}
use Rattle.dr_ledger_text.specs.Lines.{sealed_text}
use Rattle.dr_ledger_read.specs.Reading.{IsOfNoLine, IsTextOf, Reads}
use Rattle.dr_ledger_read.specs.declared.reading.SealedLine.{SealedLine}

-- a text is read in one way
abbrev pub ATextIsReadInOneWay : Type 0
ATextIsReadInOneWay =
    (text : Text) (n m : ℕ) (line other : JournalLine) (moment since : Option ℕ)
    → IsTextOf text n line moment → IsTextOf text m other since
    → AreSame n m line other moment since

-- what was read, or that memory was wanted
abbrev pub Gave : {E : Type 0} → SealedLine → Result (Option SealedLine) E → Type 0
Gave line (Ok (Some read)) = read ≡ line
Gave line (Ok None) = ⊥
Gave line (Err lack) = Unit {0}

-- of what is written of a line, the line is read, unless memory is wanted
abbrev pub WhatIsWrittenIsRead : Type 0 → Type 0
WhatIsWrittenIsRead E =
    (line : SealedLine) (answer : Result (Option SealedLine) E)
    → IsTextOf (sealed_text line.number line.line line.moment) line.number line.line line.moment
    → Reads (sealed_text line.number line.line line.moment) answer
    → Gave line answer

-- figures: texts of a line, and texts of none: no byte, a line with what ends it, and a number that
-- begins with 0
abbrev pub some_text : Text
some_text =
    codes "{\"line\":7,\"kind\":\"settling\",\"uid\":\"1.2\",\"dest\":\"ARCH\","
    ++ codes "\"outcome\":\"B011\",\"moment\":1000,\"at\":2000}"

abbrev pub ReadingFiguresAreRight : Type 0
ReadingFiguresAreRight =
    IsTextOf some_text 7 tried (Some 2000)
    × IsTextOf (codes "{\"line\":9,\"kind\":\"adoption\"}") 9 told.Adoption None
    × IsOfNoLine []
    × IsOfNoLine (codes "{\"line\":9,\"kind\":\"adoption\"}\n")
    × IsOfNoLine (codes "{\"line\":09,\"kind\":\"adoption\"}")
