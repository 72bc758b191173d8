use Rattle.dr_ledger_read.proofs.Outcomes.{broken_cut, no_context_cut, no_outcome, status_found, unreadable_cut}
use Rattle.dr_ledger_read.proofs.outcome.cut_outcome.Goals as goal

pub returns-in-Some : goal.returns-in-Some
returns-in-Some c = broken_cut c.args.text.now c.in-Some.rest c.in-Some.ensures

pub returns-in-Some-after : goal.returns-in-Some-after
returns-in-Some-after c = no_context_cut c.args.text.now c.in-Some-after.rest c.in-Some-after.ensures

pub returns-in-Some-after-2 : goal.returns-in-Some-after-2
returns-in-Some-after-2 c = unreadable_cut c.args.text.now c.in-Some-after-2.rest c.in-Some-after-2.ensures

pub returns-in_err-status : goal.returns-in_err-status
returns-in_err-status c = rw c.from_residual.ensures (no_outcome c.args.text.now c.in_default.ensures c.in_default-after.ensures c.in_default-after-2.ensures c.in_err-status.ensures)

pub returns : goal.returns
returns c =
    status_found c.args.text.now c.in_default.ensures c.in_default-after.ensures c.in_default-after-2.ensures c.in_ok-status.status c.in_ok-status.rest c.in_ok-status.ensures
