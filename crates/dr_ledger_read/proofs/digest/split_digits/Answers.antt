use Rattle.std.proofs.Common.{arith}
use Rattle.dr_ledger_read.proofs.digest.split_digits.Goals as goal

pub returns-then-text-lt-DIGITS : goal.returns-then-text-lt-DIGITS
returns-then-text-lt-DIGITS c = c.if-text-lt-DIGITS.true

pub split_at-requires : goal.split_at-requires
split_at-requires c = omega (arith, c.if-text-lt-DIGITS.false)

pub returns : goal.returns
returns c = (c.split_at.ensures.by_index.0, c.split_at.ensures.front_len)
