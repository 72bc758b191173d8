use Rattle.std.proofs.Common.{arith, refl}
use Rattle.dr_ledger_read.proofs.Counts.{one_digit_more, stops_at, stops_at_end}
use Rattle.dr_ledger_read.proofs.numbers.count_digits.Goals as goal

pub loop-byte-init : goal.loop-byte-init
loop-byte-init c = (refl, tt)

pub returns-then-not-is_ascii_digit-clause-within : goal.returns-then-not-is_ascii_digit-clause-within
returns-then-not-is_ascii_digit-clause-within c = omega (arith, c.loop-byte.invariant.0, c.loop-byte-test.true)

pub returns-then-not-is_ascii_digit-clause-digits : goal.returns-then-not-is_ascii_digit-clause-digits
returns-then-not-is_ascii_digit-clause-digits c = c.loop-byte.invariant.1

pub returns-then-not-is_ascii_digit-clause-stops : goal.returns-then-not-is_ascii_digit-clause-stops
returns-then-not-is_ascii_digit-clause-stops c = stops_at c.args.text.now c.loop-byte.count c.loop-byte.byte-index c.loop-byte.invariant.0 c.if-not-is_ascii_digit.ensures.cases

pub loop-byte-preserved : goal.loop-byte-preserved
loop-byte-preserved c = (
  omega (arith, c.loop-byte.invariant.0),
  one_digit_more c.args.text.now c.loop-byte.count c.loop-byte.byte-index c.loop-byte.invariant.0 c.loop-byte-test.true c.if-not-is_ascii_digit.ensures.bound c.loop-byte.invariant.1,
)

pub returns-clause-within : goal.returns-clause-within
returns-clause-within c = omega (arith, c.loop-byte.invariant.0, c.loop-byte.auto.byte-index-end)

pub returns-clause-digits : goal.returns-clause-digits
returns-clause-digits c = c.loop-byte.invariant.1

pub returns-clause-stops : goal.returns-clause-stops
returns-clause-stops c = stops_at_end c.args.text.now c.loop-byte.count (omega (arith, c.loop-byte.invariant.0, c.loop-byte-test.false))
