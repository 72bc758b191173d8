use Rattle.std.proofs.Common.{arith}
use Rattle.dr_ledger_read.proofs.Bytes.{by_digits, byte_cut, no_digits}
use Rattle.dr_ledger_read.proofs.quoted.cut_behind.Goals as goal

pub returns-in-Some : goal.returns-in-Some
returns-in-Some c = byte_cut c.args.text.now 10 c.in-Some.rest (omega arith) c.in-Some.ensures

pub returns-in-Some-after : goal.returns-in-Some-after
returns-in-Some-after c = byte_cut c.args.text.now 34 c.in-Some-after.rest (omega arith) c.in-Some-after.ensures

pub returns-in-Some-after-2 : goal.returns-in-Some-after-2
returns-in-Some-after-2 c = byte_cut c.args.text.now 92 c.in-Some-after-2.rest (omega arith) c.in-Some-after-2.ensures

pub returns-in_err-digits : goal.returns-in_err-digits
returns-in_err-digits c = rw c.from_residual.ensures (no_digits c.args.text.now c.requires c.in_default.ensures c.in_default-after.ensures c.in_default-after-2.ensures c.in_err-digits.ensures)

pub cut_escaped-requires : goal.cut_escaped-requires
cut_escaped-requires c = c.in_ok-digits.ensures

pub returns : goal.returns
returns c = by_digits c.args.text.now c.requires c.in_default.ensures c.in_default-after.ensures c.in_default-after-2.ensures c.cut_escaped.result c.cut_escaped.ensures
