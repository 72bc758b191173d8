use Rattle.dr_ledger_read.proofs.Said.{no_dest, no_row_uid, row_cut}
use Rattle.dr_ledger_read.proofs.line.cut_row.Goals as goal

pub returns-in_err-uid : goal.returns-in_err-uid
returns-in_err-uid c = rw c.from_residual.ensures (no_row_uid c.args.text.now c.in_err-uid.ensures)

pub returns-in_err-dest : goal.returns-in_err-dest
returns-in_err-dest c =
    rw c.from_residual-in_err-dest.ensures
    (no_dest c.args.text.now c.in_ok-uid.uid c.in_ok-uid.after_uid c.in_ok-uid.ensures c.in_err-dest.ensures)

pub returns : goal.returns
returns c =
    row_cut c.args.text.now c.in_ok-uid.uid c.in_ok-uid.after_uid c.in_ok-uid.ensures c.in_ok-dest.dest c.in_ok-dest.rest c.in_ok-dest.ensures
