use Rattle.std.proofs.Common.{List}
use Rattle.dr_ledger_history.specs.declared.line.JournalLine.{JournalLine}
use Rattle.dr_run_serve.specs.Pasts.{HasNoted, TellsPage}
use Rattle.dr_run_serve.proofs.Leafing.{SoFar}
use Rattle.dr_run_serve.proofs.past.DeskJournal.read_on.Given as goal

abbrev pub invariant-loop-turn : goal.invariant-loop-turn
invariant-loop-turn g l =
    (lines : List JournalLine) → HasNoted lines l.initial.past
    → SoFar (TellsPage g.L.Ledger.site g.L.Ledger.book g.L.Ledger.bodies g.L.Ledger.stands g.L.Ledger.failed g.B.Sharing.site g.B.Sharing.first g.L.Views.numbered) lines l._turn l.past
