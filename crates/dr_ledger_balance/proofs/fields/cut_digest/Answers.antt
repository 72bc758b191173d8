use Rattle.dr_ledger_balance.proofs.Cutting.{digest_there, no_digest, no_digits}
use Rattle.dr_ledger_balance.proofs.fields.cut_digest.Goals as goal

pub returns-in_err-digits : goal.returns-in_err-digits
returns-in_err-digits c = rw c.from_residual.ensures (no_digits c.args.text.now c.in_err-digits.ensures)

pub returns-in_err-digest : goal.returns-in_err-digest
returns-in_err-digest c = rw c.from_residual-in_err-digest.ensures (no_digest c.args.text.now c.in_ok-digits.digits.now c.in_ok-digits.rest.now c.in_ok-digits.ensures c.in_err-digest.ensures)

pub returns : goal.returns
returns c = digest_there c.args.text.now c.in_ok-digits.digits.now c.in_ok-digits.rest.now c.in_ok-digits.ensures c.in_ok-digest.digest c.in_ok-digest.ensures
