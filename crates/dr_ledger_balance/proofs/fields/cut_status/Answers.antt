use Rattle.std.proofs.Common.{arith}
use Rattle.dr_ledger_balance.proofs.Cutting.{small_there, too_great}
use Rattle.dr_ledger_balance.proofs.fields.cut_status.Goals as goal

pub returns-in_err-number : goal.returns-in_err-number
returns-in_err-number c = rw c.from_residual.ensures (λ n rest is. c.in_err-number.ensures n rest (omega (arith, is.0), is.1))

pub returns-in_default : goal.returns-in_default
returns-in_default c = too_great c.args.text.now c.in_ok-number.number c.in_ok-number.rest.now c.in_ok-number.ensures 65536 (omega arith) c.in_default.ensures

pub returns : goal.returns
returns c = small_there c.args.text.now c.in_ok-number.number c.in_ok-number.rest.now c.in_ok-number.ensures 65536 c.in-Ok.status c.in-Ok.ensures.0 c.in-Ok.ensures.1
