use Rattle.std.proofs.Common.{arith}
use Rattle.dr_ledger_read.proofs.Bytes.{above_digits, below_digits, between_digits, high_digit, low_digit}
use Rattle.dr_ledger_read.proofs.quoted.digit_of.Goals as goal

pub returns-then-digit-lt48 : goal.returns-then-digit-lt48
returns-then-digit-lt48 c = λ n small is. below_digits n c.args.digit small is c.if-digit-lt48.true

pub returns-then-digit-le57 : goal.returns-then-digit-le57
returns-then-digit-le57 c = low_digit c.args.digit (omega (arith, c.if-digit-lt48.false)) c.if-digit-le57.true

pub returns-then-digit-lt97 : goal.returns-then-digit-lt97
returns-then-digit-lt97 c = λ n small is. between_digits n c.args.digit small is (omega (arith, c.if-digit-le57.false)) c.if-digit-lt97.true

pub overflow_sub-result-then-digit-le102 : goal.overflow_sub-result-then-digit-le102
overflow_sub-result-then-digit-le102 c = omega (arith, c.if-digit-lt97.false)

pub returns-then-digit-le102 : goal.returns-then-digit-le102
returns-then-digit-le102 c = high_digit c.args.digit (omega (arith, c.if-digit-lt97.false)) c.if-digit-le102.true

pub returns : goal.returns
returns c = λ n small is. above_digits n c.args.digit small is (omega (arith, c.if-digit-le102.false))
