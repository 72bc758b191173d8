use Rattle.std.proofs.Common.{arith, refl, sym, ◌∙◌}
use Rattle.std.proofs.lemmas.Bool.{false≢true}
use Rattle.dr_ledger_read.proofs.Bytes.{escaped_cut, no_back, no_front, no_high, no_low, not_escaped}
use Rattle.dr_ledger_read.proofs.quoted.cut_escaped.Goals as goal

pub returns-in_err-high : goal.returns-in_err-high
returns-in_err-high c = rw c.from_residual.ensures (no_high c.args.text.now c.args.digits.now c.requires c.in_err-high.ensures.cases)

pub returns-in_err-low : goal.returns-in_err-low
returns-in_err-low c =
    rw c.from_residual-in_err-low.ensures
    (no_low c.args.text.now c.args.digits.now c.requires c.in_ok-high.high.now c.in_ok-high.behind.now c.in_ok-high.ensures.cases.0 c.in_err-low.ensures.cases)

pub returns-in_err-front : goal.returns-in_err-front
returns-in_err-front c =
    rw c.from_residual-in_err-front.ensures
    (no_front c.args.text.now c.args.digits.now c.requires c.in_ok-high.high.now c.in_ok-low.low.now c.in_ok-high.behind.now c.in_ok-low.rest.now c.in_ok-high.ensures.cases.0 c.in_ok-low.ensures.cases.0
    c.in_err-front.ensures)

pub returns-in_err-back : goal.returns-in_err-back
returns-in_err-back c =
    rw c.from_residual-in_err-back.ensures
    (no_back c.args.text.now c.args.digits.now c.requires c.in_ok-high.high.now c.in_ok-low.low.now c.in_ok-high.behind.now c.in_ok-low.rest.now c.in_ok-high.ensures.cases.0 c.in_ok-low.ensures.cases.0
    c.in_err-back.ensures)

pub overflow_mul-byte : goal.overflow_mul-byte
overflow_mul-byte c = omega (arith, c.in_ok-front.ensures.0)

pub overflow_add-byte : goal.overflow_add-byte
overflow_add-byte c = omega (arith, c.in_ok-front.ensures.0, c.in_ok-back.ensures.0)

pub returns-then-not-has_digits : goal.returns-then-not-has_digits
returns-then-not-has_digits c =
    not_escaped c.args.text.now c.args.digits.now c.requires c.in_ok-high.high.now c.in_ok-low.low.now c.in_ok-high.behind.now c.in_ok-low.rest.now c.in_ok-high.ensures.cases.0 c.in_ok-low.ensures.cases.0
    c.in_ok-front.front c.in_ok-back.back c.in_ok-front.ensures c.in_ok-back.ensures (λ e. false≢true (sym c.if-not-has_digits.true ∙ c.has_digits.ensures.1 e))

pub returns : goal.returns
returns c =
    escaped_cut c.args.text.now c.args.digits.now c.requires c.in_ok-high.high.now c.in_ok-low.low.now c.in_ok-high.behind.now c.in_ok-low.rest.now c.in_ok-high.ensures.cases.0 c.in_ok-low.ensures.cases.0
    c.in_ok-front.front c.in_ok-back.back c.in_ok-front.ensures c.in_ok-back.ensures c.in_ok-low.rest refl (c.has_digits.ensures.0 c.if-not-has_digits.false)
