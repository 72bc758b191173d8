use Rattle.dr_ledger_balance.proofs.Cutting.{no_syntax, no_uid, syntax_there}
use Rattle.dr_ledger_balance.proofs.fields.cut_syntax.Goals as goal

pub returns-in_err-uid : goal.returns-in_err-uid
returns-in_err-uid c = rw c.from_residual.ensures (no_uid c.args.text.now c.in_err-uid.ensures)

pub returns-in_err-syntax : goal.returns-in_err-syntax
returns-in_err-syntax c = rw c.from_residual-in_err-syntax.ensures (no_syntax c.args.text.now c.in_ok-uid.uid.now c.in_ok-uid.rest.now c.in_ok-uid.ensures c.in_err-syntax.ensures)

pub returns : goal.returns
returns c = syntax_there c.args.text.now c.in_ok-uid.uid.now c.in_ok-uid.rest.now c.in_ok-uid.ensures c.in_ok-syntax.syntax c.in_ok-syntax.ensures
