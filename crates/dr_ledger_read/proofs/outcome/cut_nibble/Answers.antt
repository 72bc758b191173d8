use Rattle.std.proofs.Common.{arith}
use Rattle.dr_ledger_read.proofs.Outcomes.{above_upper, below_upper, between_upper, high_nibble, low_nibble, no_digit_here}
use Rattle.dr_ledger_read.proofs.outcome.cut_nibble.Goals as goal

pub returns-in_err-digit : goal.returns-in_err-digit
returns-in_err-digit c = rw c.from_residual.ensures (no_digit_here c.args.text.now c.in_err-digit.ensures.cases)

pub returns-then-digit-lt48 : goal.returns-then-digit-lt48
returns-then-digit-lt48 c = below_upper c.args.text.now c.in_ok-digit.digit.now c.in_ok-digit.rest c.in_ok-digit.ensures.cases.0 c.if-digit-lt48.true

pub overflow_sub-digit : goal.overflow_sub-digit
overflow_sub-digit c = omega (arith, c.if-digit-lt48.false)

pub overflow_sub-digit-then-digit-le70 : goal.overflow_sub-digit-then-digit-le70
overflow_sub-digit-then-digit-le70 c = omega (arith, c.if-digit-lt65.false)

pub returns-then-digit-le57 : goal.returns-then-digit-le57
returns-then-digit-le57 c =
    low_nibble c.args.text.now c.in_ok-digit.digit.now c.in_ok-digit.rest c.in_ok-digit.ensures.cases.0 c.from.result c.from.ensures (omega (arith, c.if-digit-lt48.false)) c.if-digit-le57.true

pub returns-then-digit-lt65 : goal.returns-then-digit-lt65
returns-then-digit-lt65 c =
    between_upper c.args.text.now c.in_ok-digit.digit.now c.in_ok-digit.rest c.in_ok-digit.ensures.cases.0 (omega (arith, c.if-digit-le57.false)) c.if-digit-lt65.true

pub returns-then-digit-le70 : goal.returns-then-digit-le70
returns-then-digit-le70 c =
    high_nibble c.args.text.now c.in_ok-digit.digit.now c.in_ok-digit.rest c.in_ok-digit.ensures.cases.0 c.from-then-digit-le70.result c.from-then-digit-le70.ensures (omega (arith, c.if-digit-lt65.false)) c.if-digit-le70.true

pub returns : goal.returns
returns c = above_upper c.args.text.now c.in_ok-digit.digit.now c.in_ok-digit.rest c.in_ok-digit.ensures.cases.0 (omega (arith, c.if-digit-le70.false))
