use Rattle.std.proofs.Common.{arith}
use Rattle.dr_cert_text.proofs.CutRows.{one_part, one_more_part, short_hop, bad_syntax_hop, bad_number, bad_id}
use Rattle.dr_cert_text.proofs.hops.cut_hop.Goals as goal

pub returns-in_err-from : goal.returns-in_err-from
returns-in_err-from c = rw c.from_residual.ensures (short_hop c.args.row.now 1 (one_part _ c.in_err-from.ensures) (λ e. omega arith))

pub returns-in_err-to : goal.returns-in_err-to
returns-in_err-to c = rw c.from_residual-in_err-to.ensures (short_hop c.args.row.now 2 (one_more_part 1 c.in_ok-from.ensures (one_part _ c.in_err-to.ensures)) (λ e. omega arith))

pub returns-in_err-digits : goal.returns-in_err-digits
returns-in_err-digits c =
    rw c.from_residual-in_err-digits.ensures
    (short_hop c.args.row.now 3 (one_more_part 2 c.in_ok-from.ensures (one_more_part 1 c.in_ok-to.ensures (one_part _ c.in_err-digits.ensures))) (λ e. omega arith))

pub returns-in_err-class : goal.returns-in_err-class
returns-in_err-class c =
    rw c.from_residual-in_err-class.ensures
    (short_hop c.args.row.now 4 (one_more_part 3 c.in_ok-from.ensures (one_more_part 2 c.in_ok-to.ensures (one_more_part 1 c.in_ok-digits.ensures (one_part _ c.in_err-class.ensures)))) (λ e. omega arith))

pub returns-in_err-number : goal.returns-in_err-number
returns-in_err-number c = rw c.from_residual-in_err-number.ensures (bad_number c.in_ok-from.ensures c.in_ok-to.ensures c.in_ok-digits.ensures c.in_err-number.ensures)

pub returns-then-number-gt-MAX_ID : goal.returns-then-number-gt-MAX_ID
returns-then-number-gt-MAX_ID c =
    bad_id c.in_ok-number.number c.in_ok-from.ensures c.in_ok-to.ensures c.in_ok-digits.ensures c.in_ok-number.ensures.0 c.in_ok-number.ensures.1 c.if-number-gt-MAX_ID.true

pub returns-in_err-syntax : goal.returns-in_err-syntax
returns-in_err-syntax c = rw c.from_residual-in_err-syntax.ensures (bad_syntax_hop c.in_ok-from.ensures c.in_ok-to.ensures c.in_ok-digits.ensures c.in_ok-class.ensures c.in_err-syntax.ensures)
