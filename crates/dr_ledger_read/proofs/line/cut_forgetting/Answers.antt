use Rattle.dr_ledger_read.proofs.Said.{forgetting_cut, forgetting_none}
use Rattle.dr_ledger_read.proofs.line.cut_forgetting.Goals as goal

pub returns-in_err-uid : goal.returns-in_err-uid
returns-in_err-uid c = rw c.from_residual.ensures (forgetting_none c.args.text.now c.in_err-uid.ensures)

pub returns : goal.returns
returns c = forgetting_cut c.args.text.now c.in_ok-uid.uid c.in_ok-uid.rest c.in_ok-uid.ensures
