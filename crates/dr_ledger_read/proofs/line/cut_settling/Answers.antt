use Rattle.dr_ledger_read.proofs.Said.{settling_cut, settling_no_outcome, settling_none, settling_unended}
use Rattle.dr_ledger_read.proofs.line.cut_settling.Goals as goal

pub returns-in_err-uid : goal.returns-in_err-uid
returns-in_err-uid c = rw c.from_residual.ensures (settling_none c.args.text.now c.in_err-uid.ensures)

pub returns-in_err-outcome : goal.returns-in_err-outcome
returns-in_err-outcome c =
    rw c.from_residual-in_err-outcome.ensures
    (settling_no_outcome c.args.text.now c.in_ok-uid.uid c.in_ok-uid.dest c.in_ok-uid.after_row c.in_ok-uid.ensures c.in_err-outcome.ensures)

pub returns-in_err-now : goal.returns-in_err-now
returns-in_err-now c =
    rw c.from_residual-in_err-now.ensures
    (settling_unended c.args.text.now c.in_ok-uid.uid c.in_ok-uid.dest c.in_ok-uid.after_row c.in_ok-uid.ensures c.in_ok-outcome.outcome c.in_ok-outcome.after_outcome c.in_ok-outcome.ensures c.in_err-now.ensures)

pub returns : goal.returns
returns c =
    settling_cut c.args.text.now c.in_ok-uid.uid c.in_ok-uid.dest c.in_ok-uid.after_row c.in_ok-uid.ensures c.in_ok-outcome.outcome c.in_ok-outcome.after_outcome c.in_ok-outcome.ensures c.in_ok-now.now c.in_ok-now.rest c.in_ok-now.ensures
