use Rattle.std.proofs.Common.{true, false}
use Rattle.dr_ledger_read.proofs.Literals.{keep_cut, no_keep}
use Rattle.dr_ledger_read.proofs.members.cut_keep.Goals as goal

pub returns-in-Some : goal.returns-in-Some
returns-in-Some c = keep_cut c.args.text.now true c.in-Some.rest c.in-Some.ensures

pub returns-in_err-rest : goal.returns-in_err-rest
returns-in_err-rest c = rw c.from_residual.ensures (no_keep c.args.text.now c.in_default.ensures c.in_err-rest.ensures)

pub returns : goal.returns
returns c = keep_cut c.args.text.now false c.in_ok-rest.rest c.in_ok-rest.ensures
