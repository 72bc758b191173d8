-- One line more.
use Rattle.std.specs.Prelude.{◌≡◌, Result, Ok, Err}
use Rattle.dr_ledger.specs.Books.{Line, Arrival, Repeat, Settling, Requeuing, Dropping, Forgetting}
use Rattle.dr_ledger.specs.Books.{Adoption, after}
use Rattle.dr_ledger.specs.Histories.{IsSomeCall}
use Rattle.dr_ledger.specs.Routings.{Routing}
use Rattle.dr_ledger_history.specs.Contents.{Content, book_of, content_of}
use Rattle.dr_ledger_history.specs.declared.line.HistoryFault.{HistoryFault}
use Rattle.dr_ledger_history.specs.declared.line.HistoryFault.TheVariants as fault

-- what a plan says of the line of a call at its node
abbrev pub IsBy : Routing → Line → Type 0
IsBy routing (Arrival caller item to keep) =
    routing.HasLine caller item.key
    × (to ≡ routing.targets caller item.key)
    × (keep ≡ routing.keeps caller item.key)
IsBy routing (Repeat caller item) = routing.HasLine caller item.key
IsBy routing (Settling uid dest outcome now) = Unit {0}
IsBy routing (Requeuing uid dest) = Unit {0}
IsBy routing (Dropping uid dest now) = Unit {0}
IsBy routing (Forgetting uid) = Unit {0}
IsBy routing Adoption = ⊥

-- what one line makes of what a node has, if it is a call that is accepted there
abbrev pub TakesLine : Line → Content → Result (Unit {0}) HistoryFault → Content → Type 0
TakesLine line old (Ok done) new =
    IsSomeCall line (book_of old) × (new ≡ content_of (after line (book_of old)))
TakesLine line old (Err fault.NoCall) new = IsSomeCall line (book_of old) → ⊥
TakesLine line old (Err fault.Memory) new = Unit {0}
