use Rattle.dr_ledger_balance.proofs.Lines.{no_dest, no_row, no_row_progress, no_row_uid, row_there, unended_row}
use Rattle.dr_ledger_balance.proofs.pieces.cut_row.Goals as goal

pub returns-in_err-fields : goal.returns-in_err-fields
returns-in_err-fields c = rw c.from_residual.ensures (no_row c.args.text.now c.in_err-fields.ensures)

pub returns-in_err-uid : goal.returns-in_err-uid
returns-in_err-uid c = rw c.from_residual-in_err-uid.ensures (no_row_uid c.args.text.now c.in_ok-fields.fields.now c.in_ok-fields.ensures c.in_err-uid.ensures)

pub returns-in_err-dest : goal.returns-in_err-dest
returns-in_err-dest c =
    rw c.from_residual-in_err-dest.ensures
    (no_dest c.args.text.now c.in_ok-fields.fields.now c.in_ok-fields.ensures c.in_ok-uid.uid.now c.in_ok-uid.after_uid.now c.in_ok-uid.ensures c.in_err-dest.ensures)

pub returns-in_err-progress : goal.returns-in_err-progress
returns-in_err-progress c =
    rw c.from_residual-in_err-progress.ensures
    (no_row_progress c.args.text.now c.in_ok-fields.fields.now c.in_ok-fields.ensures c.in_ok-uid.uid.now c.in_ok-uid.after_uid.now c.in_ok-uid.ensures
    c.in_ok-dest.dest.now c.in_ok-dest.after_dest.now c.in_ok-dest.ensures c.in_err-progress.ensures)

pub returns-in_err-rest : goal.returns-in_err-rest
returns-in_err-rest c =
    rw c.from_residual-in_err-rest.ensures
    (unended_row c.args.text.now c.in_ok-fields.fields.now c.in_ok-fields.ensures c.in_ok-uid.uid.now c.in_ok-uid.after_uid.now c.in_ok-uid.ensures
    c.in_ok-dest.dest.now c.in_ok-dest.after_dest.now c.in_ok-dest.ensures c.in_ok-progress.progress c.in_ok-progress.later.now c.in_ok-progress.ensures c.in_err-rest.ensures)

pub returns : goal.returns
returns c =
    row_there c.args.text.now c.in_ok-fields.fields.now c.in_ok-fields.ensures c.in_ok-uid.uid.now c.in_ok-uid.after_uid.now c.in_ok-uid.ensures
    c.in_ok-dest.dest.now c.in_ok-dest.after_dest.now c.in_ok-dest.ensures c.in_ok-progress.progress c.in_ok-progress.later.now c.in_ok-progress.ensures c.in_ok-rest.rest.now c.in_ok-rest.ensures
