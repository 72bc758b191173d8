-- Laws of what is read of a journal.
use Rattle.std.specs.Prelude.{◌≡◌, ◌<◌, ◌^◌, ℕ, Bool, true, List, ◌++◌, drop, length, take, Result}
use Rattle.std.specs.Prelude.{Ok, Err}
use Rattle.dr_ledger.specs.declared.fault.LedgerFault.{LedgerFault}
use Rattle.dr_ledger_history.specs.declared.line.JournalLine.{JournalLine}
use Rattle.dr_run_serve.specs.Pasts.{ReadsOn}

-- the pages of this journal are told, or a fault
abbrev pub TellsOf : List JournalLine → ℕ → Result (List JournalLine) LedgerFault → Type 0
TellsOf lines after (Ok page) = page ≡ take 256 (drop after lines)
TellsOf lines after (Err why) = Unit {0}

-- what is read of it, from the first line on, are first lines of it
abbrev pub BeginningsAreRead : Type 0
BeginningsAreRead =
    (lines more : List JournalLine) (result : Result Bool LedgerFault)
    → length lines < 2 ^ 63
    → ReadsOn (TellsOf lines) 0 result more
    → (rest : List JournalLine) × (lines ≡ more ++ rest)

-- and where that is all, it is the journal
abbrev pub TheWholeIsRead : Type 0
TheWholeIsRead =
    (lines more : List JournalLine)
    → length lines < 2 ^ 63
    → ReadsOn (TellsOf lines) 0 (Ok true) more
    → more ≡ lines
