use Rattle.dr_ledger_read.proofs.Said.{requeuing_cut, requeuing_none}
use Rattle.dr_ledger_read.proofs.line.cut_requeuing.Goals as goal

pub returns-in_err-uid : goal.returns-in_err-uid
returns-in_err-uid c = rw c.from_residual.ensures (requeuing_none c.args.text.now c.in_err-uid.ensures)

pub returns : goal.returns
returns c = requeuing_cut c.args.text.now c.in_ok-uid.uid c.in_ok-uid.dest c.in_ok-uid.rest c.in_ok-uid.ensures
