use Rattle.dr_ledger_balance.proofs.Lines.{arrival_there, no_arrival, no_brought, no_caller, unended_arrival}
use Rattle.dr_ledger_balance.proofs.pieces.cut_arrival.Goals as goal

pub returns-in_err-fields : goal.returns-in_err-fields
returns-in_err-fields c = rw c.from_residual.ensures (no_arrival c.args.text.now c.in_err-fields.ensures)

pub returns-in_err-caller : goal.returns-in_err-caller
returns-in_err-caller c = rw c.from_residual-in_err-caller.ensures (no_caller c.args.text.now c.in_ok-fields.fields.now c.in_ok-fields.ensures c.in_err-caller.ensures)

pub returns-in_err-uid : goal.returns-in_err-uid
returns-in_err-uid c =
    rw c.from_residual-in_err-uid.ensures
    (no_brought c.args.text.now c.in_ok-fields.fields.now c.in_ok-fields.ensures c.in_ok-caller.caller.now c.in_ok-caller.after_caller.now c.in_ok-caller.ensures c.in_err-uid.ensures)

pub returns-in_err-rest : goal.returns-in_err-rest
returns-in_err-rest c =
    rw c.from_residual-in_err-rest.ensures
    (unended_arrival c.args.text.now c.in_ok-fields.fields.now c.in_ok-fields.ensures c.in_ok-caller.caller.now c.in_ok-caller.after_caller.now c.in_ok-caller.ensures
    c.in_ok-uid.uid.now c.in_ok-uid.later.now c.in_ok-uid.ensures c.in_err-rest.ensures)

pub returns : goal.returns
returns c =
    arrival_there c.args.text.now c.in_ok-fields.fields.now c.in_ok-fields.ensures c.in_ok-caller.caller.now c.in_ok-caller.after_caller.now c.in_ok-caller.ensures
    c.in_ok-uid.uid.now c.in_ok-uid.later.now c.in_ok-uid.ensures c.in_ok-rest.rest.now c.in_ok-rest.ensures
