use Rattle.std.proofs.Common.{◌∙◌, arith}
use Rattle.dr_ledger_read.proofs.Outcomes.{digits_are, digits_then, nibble, no_b, no_c, no_d, status_cut, status_then_is, unended}
use Rattle.dr_ledger_read.proofs.outcome.cut_status.Goals as goal

pub returns-in_err-digits : goal.returns-in_err-digits
returns-in_err-digits c = rw c.from_residual.ensures (λ s rest is. c.in_err-digits.ensures (digits_then s rest) (is.1 ∙ status_then_is s rest is.0))

pub returns-in_err-a : goal.returns-in_err-a
returns-in_err-a c = rw c.from_residual-in_err-a.ensures (λ s rest is. c.in_err-a.ensures _ _ ((let low = is.0 in omega (arith, low)), digits_are c.args.text.now c.in_ok-digits.digits.now c.in_ok-digits.ensures s rest is))

pub returns-in_err-b : goal.returns-in_err-b
returns-in_err-b c = rw c.from_residual-in_err-b.ensures (no_b c.args.text.now c.in_ok-digits.digits.now c.in_ok-digits.ensures c.in_ok-a.a c.in_ok-a.more c.in_ok-a.ensures c.in_err-b.ensures)

pub returns-in_err-c : goal.returns-in_err-c
returns-in_err-c c =
    rw c.from_residual-in_err-c.ensures
    (no_c c.args.text.now c.in_ok-digits.digits.now c.in_ok-digits.ensures c.in_ok-a.a c.in_ok-a.more c.in_ok-a.ensures c.in_ok-b.b c.in_ok-b.again c.in_ok-b.ensures c.in_err-c.ensures)

pub returns-in_err-d : goal.returns-in_err-d
returns-in_err-d c =
    rw c.from_residual-in_err-d.ensures
    (no_d c.args.text.now c.in_ok-digits.digits.now c.in_ok-digits.ensures c.in_ok-a.a c.in_ok-a.more c.in_ok-a.ensures c.in_ok-b.b c.in_ok-b.again c.in_ok-b.ensures
    c.in_ok-c.c c.in_ok-c.later c.in_ok-c.ensures c.in_err-d.ensures)

pub returns-in_err-rest : goal.returns-in_err-rest
returns-in_err-rest c =
    rw c.from_residual-in_err-rest.ensures
    (unended c.args.text.now c.in_ok-digits.digits.now c.in_ok-digits.ensures c.in_ok-a.a c.in_ok-a.more c.in_ok-a.ensures c.in_ok-b.b c.in_ok-b.again c.in_ok-b.ensures
    c.in_ok-c.c c.in_ok-c.later c.in_ok-c.ensures c.in_ok-d.d c.in_ok-d.last c.in_ok-d.ensures c.in_err-rest.ensures)

pub overflow_mul-result : goal.overflow_mul-result
overflow_mul-result c = omega (arith, nibble c.in_ok-digits.digits.now c.in_ok-a.a c.in_ok-a.more c.in_ok-a.ensures)

pub overflow_mul-result-2 : goal.overflow_mul-result-2
overflow_mul-result-2 c = omega (arith, nibble c.in_ok-a.more.now c.in_ok-b.b c.in_ok-b.again c.in_ok-b.ensures)

pub overflow_add-result : goal.overflow_add-result
overflow_add-result c = omega (arith, nibble c.in_ok-digits.digits.now c.in_ok-a.a c.in_ok-a.more c.in_ok-a.ensures, nibble c.in_ok-a.more.now c.in_ok-b.b c.in_ok-b.again c.in_ok-b.ensures)

pub overflow_mul-result-3 : goal.overflow_mul-result-3
overflow_mul-result-3 c = omega (arith, nibble c.in_ok-b.again.now c.in_ok-c.c c.in_ok-c.later c.in_ok-c.ensures)

pub overflow_add-result-2 : goal.overflow_add-result-2
overflow_add-result-2 c = omega (arith, nibble c.in_ok-digits.digits.now c.in_ok-a.a c.in_ok-a.more c.in_ok-a.ensures, nibble c.in_ok-a.more.now c.in_ok-b.b c.in_ok-b.again c.in_ok-b.ensures, nibble c.in_ok-b.again.now c.in_ok-c.c c.in_ok-c.later c.in_ok-c.ensures)

pub overflow_add-result-3 : goal.overflow_add-result-3
overflow_add-result-3 c = omega (arith, nibble c.in_ok-digits.digits.now c.in_ok-a.a c.in_ok-a.more c.in_ok-a.ensures, nibble c.in_ok-a.more.now c.in_ok-b.b c.in_ok-b.again c.in_ok-b.ensures, nibble c.in_ok-b.again.now c.in_ok-c.c c.in_ok-c.later c.in_ok-c.ensures, nibble c.in_ok-c.later.now c.in_ok-d.d c.in_ok-d.last c.in_ok-d.ensures)

pub returns : goal.returns
returns c =
    status_cut c.args.text.now c.in_ok-digits.digits.now c.in_ok-digits.ensures c.in_ok-a.a c.in_ok-a.more c.in_ok-a.ensures c.in_ok-b.b c.in_ok-b.again c.in_ok-b.ensures
    c.in_ok-c.c c.in_ok-c.later c.in_ok-c.ensures c.in_ok-d.d c.in_ok-d.last c.in_ok-d.ensures c.in_ok-rest.rest c.in_ok-rest.ensures
