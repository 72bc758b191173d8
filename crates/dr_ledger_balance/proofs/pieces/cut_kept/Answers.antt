use Rattle.dr_ledger_balance.proofs.Lines.{kept_there, no_kept, no_kept_uid, unended_kept}
use Rattle.dr_ledger_balance.proofs.pieces.cut_kept.Goals as goal

pub returns-in_err-fields : goal.returns-in_err-fields
returns-in_err-fields c = rw c.from_residual.ensures (no_kept c.args.text.now c.in_err-fields.ensures)

pub returns-in_err-uid : goal.returns-in_err-uid
returns-in_err-uid c = rw c.from_residual-in_err-uid.ensures (no_kept_uid c.args.text.now c.in_ok-fields.fields.now c.in_ok-fields.ensures c.in_err-uid.ensures)

pub returns-in_err-rest : goal.returns-in_err-rest
returns-in_err-rest c =
    rw c.from_residual-in_err-rest.ensures
    (unended_kept c.args.text.now c.in_ok-fields.fields.now c.in_ok-fields.ensures c.in_ok-uid.uid.now c.in_ok-uid.later.now c.in_ok-uid.ensures c.in_err-rest.ensures)

pub returns : goal.returns
returns c =
    kept_there c.args.text.now c.in_ok-fields.fields.now c.in_ok-fields.ensures c.in_ok-uid.uid.now c.in_ok-uid.later.now c.in_ok-uid.ensures c.in_ok-rest.rest.now c.in_ok-rest.ensures
