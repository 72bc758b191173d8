use Rattle.dr_run_control.proofs.Telling.{done_was_done, else_nothing}
use Rattle.dr_run_control.proofs.laws.acts_are_told.Goals as goal

pub returns-clause-done : goal.returns-clause-done
returns-clause-done g c = done_was_done g.L.Ledger.site g.L.Ledger.book g.L.Ledger.stands g.L.Ledger.failed g.B.Sharing.site g.B.Sharing.first

pub returns-clause-nothing : goal.returns-clause-nothing
returns-clause-nothing g c = else_nothing g.L.Ledger.site g.L.Ledger.book g.L.Ledger.stands g.L.Ledger.failed g.B.Sharing.site g.B.Sharing.first
