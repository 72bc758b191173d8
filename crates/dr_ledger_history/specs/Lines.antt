-- Lines of a journal, as books know them.
use Rattle.std.specs.Prelude.{List, map as mapped}
use Rattle.dr_ledger.specs.Books.{Line, Arrival, Repeat, Settling, Requeuing, Dropping, Forgetting}
use Rattle.dr_ledger.specs.Books.{Adoption}
use Rattle.dr_ledger_history.specs.declared.line.JournalLine.{JournalLine}
use Rattle.dr_ledger_history.specs.declared.line.JournalLine.TheVariants as told

-- the line that is told
abbrev pub line_of : JournalLine → Line
line_of (told.Arrival caller instance to keep) = Arrival caller instance to keep
line_of (told.Repeat caller instance) = Repeat caller instance
line_of (told.Settling uid dest outcome now) = Settling uid dest outcome now
line_of (told.Requeuing uid dest) = Requeuing uid dest
line_of (told.Dropping uid dest now) = Dropping uid dest now
line_of (told.Forgetting uid) = Forgetting uid
line_of told.Adoption = Adoption

-- all of them
abbrev pub lines_of : List JournalLine → List Line
lines_of lines = mapped line_of lines
