use Rattle.std.specs.Prelude.{drop}
use Rattle.dr_run_control.proofs.InTurn.{TowardAll}
use Rattle.dr_run_control.proofs.reads.DeskClerk.requeue_each.Given as goal

abbrev pub invariant-loop-row : goal.invariant-loop-row
invariant-loop-row g l = TowardAll g.L.Ledger.site g.L.Ledger.book g.L.Ledger.stands g.L.Ledger.failed g.B.Sharing.site g.B.Sharing.first l.dest (l.initial.pass.made.count, l.initial.pass.receipts.items) l.rows (l.pass.made.count, l.pass.receipts.items) (drop l.row-index l.rows)
