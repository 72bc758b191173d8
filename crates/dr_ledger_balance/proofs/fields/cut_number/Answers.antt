use Rattle.std.proofs.Common.{◌∷◌, ◌++◌, decimal}
use Rattle.dr_ledger_balance.proofs.Cutting.{no_numeral, number_there, unended_number}
use Rattle.dr_ledger_balance.proofs.fields.cut_number.Goals as goal

pub returns-in_err-behind : goal.returns-in_err-behind
returns-in_err-behind c = rw c.from_residual.ensures (λ n rest is. c.in_err-behind.ensures (decimal n ++ 58 ∷ rest) is.1)

pub returns-in_err-digits : goal.returns-in_err-digits
returns-in_err-digits c = rw c.from_residual-in_err-digits.ensures (unended_number c.args.text.now c.in_ok-behind.behind.now c.in_ok-behind.ensures c.in_err-digits.ensures)

pub returns-in_err-number : goal.returns-in_err-number
returns-in_err-number c =
    rw c.from_residual-in_err-number.ensures
    (no_numeral c.args.text.now c.in_ok-behind.behind.now c.in_ok-behind.ensures c.in_ok-digits.digits.now c.in_ok-digits.rest.now c.in_ok-digits.ensures c.in_err-number.ensures)

pub returns : goal.returns
returns c =
    number_there c.args.text.now c.in_ok-behind.behind.now c.in_ok-behind.ensures c.in_ok-digits.digits.now c.in_ok-digits.rest.now c.in_ok-digits.ensures c.in_ok-number.number c.in_ok-number.ensures
