use Rattle.std.proofs.Common.{drop}
use Rattle.dr_ledger_memory.proofs.Fitting.{IsLeft}
use Rattle.dr_ledger_memory.proofs.ledger.unfit_row.Given as goal

abbrev pub invariant-loop-row : goal.invariant-loop-row
invariant-loop-row l = IsLeft l.next.plan l.name l.entry (drop l.row-index l.entry.rows.items)
