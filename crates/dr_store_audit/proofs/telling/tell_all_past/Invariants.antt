use Rattle.std.proofs.Common.{List, take, ◌++◌}
use Rattle.dr_ledger.specs.Books.{Line}
use Rattle.dr_ledger_history.specs.Contents.{content}
use Rattle.dr_ledger_history.specs.Told.{IsTold}
use Rattle.dr_store_audit.specs.Journal.{lines_told}
use Rattle.dr_store_audit.proofs.telling.tell_all_past.Given as goal

abbrev pub invariant-loop-entry : goal.invariant-loop-entry
invariant-loop-entry l = (before : List Line) → IsTold before (content l.fn.begun.parts)
    → IsTold (before ++ lines_told l.goals (take l.entry-index l.notes)) (content l.history.parts)
