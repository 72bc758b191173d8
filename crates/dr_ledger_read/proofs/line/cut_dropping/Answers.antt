use Rattle.dr_ledger_read.proofs.Said.{dropping_cut, dropping_none, dropping_unended}
use Rattle.dr_ledger_read.proofs.line.cut_dropping.Goals as goal

pub returns-in_err-uid : goal.returns-in_err-uid
returns-in_err-uid c = rw c.from_residual.ensures (dropping_none c.args.text.now c.in_err-uid.ensures)

pub returns-in_err-now : goal.returns-in_err-now
returns-in_err-now c =
    rw c.from_residual-in_err-now.ensures
    (dropping_unended c.args.text.now c.in_ok-uid.uid c.in_ok-uid.dest c.in_ok-uid.after_row c.in_ok-uid.ensures c.in_err-now.ensures)

pub returns : goal.returns
returns c =
    dropping_cut c.args.text.now c.in_ok-uid.uid c.in_ok-uid.dest c.in_ok-uid.after_row c.in_ok-uid.ensures c.in_ok-now.now c.in_ok-now.rest c.in_ok-now.ensures
