use Rattle.dr_ledger_read.proofs.Said.{arrival_cut, arrival_no_item, arrival_no_list, arrival_no_names, arrival_none, arrival_unended}
use Rattle.dr_ledger_read.proofs.line.cut_arrival.Goals as goal

pub returns-in_err-caller : goal.returns-in_err-caller
returns-in_err-caller c = rw c.from_residual.ensures (arrival_none c.args.text.now c.in_err-caller.ensures)

pub returns-in_err-item : goal.returns-in_err-item
returns-in_err-item c =
    rw c.from_residual-in_err-item.ensures
    (arrival_no_item c.args.text.now c.in_ok-caller.caller c.in_ok-caller.after_caller c.in_ok-caller.ensures c.in_err-item.ensures)

pub returns-in_err-names : goal.returns-in_err-names
returns-in_err-names c =
    rw c.from_residual-in_err-names.ensures
    (arrival_no_list c.args.text.now c.in_ok-caller.caller c.in_ok-caller.after_caller c.in_ok-caller.ensures c.in_ok-item.item c.in_ok-item.after_item c.in_ok-item.ensures c.in_err-names.ensures)

pub returns-in_err-to : goal.returns-in_err-to
returns-in_err-to c =
    rw c.from_residual-in_err-to.ensures
    (arrival_no_names c.args.text.now c.in_ok-caller.caller c.in_ok-caller.after_caller c.in_ok-caller.ensures c.in_ok-item.item c.in_ok-item.after_item c.in_ok-item.ensures c.in_ok-names.names.now c.in_ok-names.ensures c.in_err-to.ensures)

pub returns-in_err-keep : goal.returns-in_err-keep
returns-in_err-keep c =
    rw c.from_residual-in_err-keep.ensures
    (arrival_unended c.args.text.now c.in_ok-caller.caller c.in_ok-caller.after_caller c.in_ok-caller.ensures c.in_ok-item.item c.in_ok-item.after_item c.in_ok-item.ensures c.in_ok-names.names.now c.in_ok-names.ensures c.in_ok-to.to c.in_ok-to.after_to c.in_ok-to.ensures c.in_err-keep.ensures)

pub returns : goal.returns
returns c =
    arrival_cut c.args.text.now c.in_ok-caller.caller c.in_ok-caller.after_caller c.in_ok-caller.ensures c.in_ok-item.item c.in_ok-item.after_item c.in_ok-item.ensures c.in_ok-names.names.now c.in_ok-names.ensures c.in_ok-to.to c.in_ok-to.after_to c.in_ok-to.ensures c.in_ok-keep.keep c.in_ok-keep.rest c.in_ok-keep.ensures
