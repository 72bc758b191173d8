use Rattle.dr_ledger_balance.proofs.Cutting.{no_due, no_progress, no_status, no_tries, status_there, waiting_there}
use Rattle.dr_ledger_balance.proofs.progress.cut_progress.Goals as goal

pub returns-in-Some : goal.returns-in-Some
returns-in-Some c = (tt, c.in-Some.ensures)

pub returns-in-Some-after : goal.returns-in-Some-after
returns-in-Some-after c = (tt, c.in-Some-after.ensures)

pub returns-in-Some-after-2 : goal.returns-in-Some-after-2
returns-in-Some-after-2 c = (tt, c.in-Some-after-2.ensures)

pub returns-in-Some-after-3 : goal.returns-in-Some-after-3
returns-in-Some-after-3 c = (tt, c.in-Some-after-3.ensures)

pub returns-in_err-status : goal.returns-in_err-status
returns-in_err-status c = rw c.from_residual.ensures (no_status c.args.text.now c.in-Some-after-4.behind.now c.in-Some-after-4.ensures c.in_err-status.ensures)

pub returns-in-Some-after-4 : goal.returns-in-Some-after-4
returns-in-Some-after-4 c = status_there c.args.text.now c.in-Some-after-4.behind.now c.in-Some-after-4.ensures c.in_ok-status.status c.in_ok-status.rest.now c.in_ok-status.ensures

pub returns-in_err-behind : goal.returns-in_err-behind
returns-in_err-behind c =
    rw c.from_residual-in_err-behind.ensures
    (no_progress c.args.text.now c.in_default.ensures c.in_default-after.ensures c.in_default-after-2.ensures c.in_default-after-3.ensures c.in_default-after-4.ensures c.in_err-behind.ensures)

pub returns-in_err-tries : goal.returns-in_err-tries
returns-in_err-tries c = rw c.from_residual-in_err-tries.ensures (no_tries c.args.text.now c.in_ok-behind.behind.now c.in_ok-behind.ensures c.in_err-tries.ensures)

pub returns-in_err-due : goal.returns-in_err-due
returns-in_err-due c =
    rw c.from_residual-in_err-due.ensures
    (no_due c.args.text.now c.in_ok-behind.behind.now c.in_ok-behind.ensures c.in_ok-tries.tries c.in_ok-tries.later.now c.in_ok-tries.ensures c.in_err-due.ensures)

pub returns : goal.returns
returns c =
    waiting_there c.args.text.now c.in_ok-behind.behind.now c.in_ok-behind.ensures c.in_ok-tries.tries c.in_ok-tries.later.now c.in_ok-tries.ensures c.in_ok-due.due c.in_ok-due.rest.now c.in_ok-due.ensures
