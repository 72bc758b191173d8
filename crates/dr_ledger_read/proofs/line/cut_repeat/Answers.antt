use Rattle.dr_ledger_read.proofs.Said.{repeat_cut, repeat_no_item, repeat_none}
use Rattle.dr_ledger_read.proofs.line.cut_repeat.Goals as goal

pub returns-in_err-caller : goal.returns-in_err-caller
returns-in_err-caller c = rw c.from_residual.ensures (repeat_none c.args.text.now c.in_err-caller.ensures)

pub returns-in_err-item : goal.returns-in_err-item
returns-in_err-item c =
    rw c.from_residual-in_err-item.ensures
    (repeat_no_item c.args.text.now c.in_ok-caller.caller c.in_ok-caller.after_caller c.in_ok-caller.ensures c.in_err-item.ensures)

pub returns : goal.returns
returns c =
    repeat_cut c.args.text.now c.in_ok-caller.caller c.in_ok-caller.after_caller c.in_ok-caller.ensures c.in_ok-item.item c.in_ok-item.rest c.in_ok-item.ensures
