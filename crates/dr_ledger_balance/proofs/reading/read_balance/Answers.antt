use Rattle.std.proofs.Common.{arith}
use Rattle.std.proofs.lemmas.Result.{err_from_is_err_and}
use Rattle.dr_ledger_balance.proofs.Answered.{not_ordered, not_sealed, some_body, text_of}
use Rattle.dr_ledger_balance.proofs.reading.read_balance.Goals as goal

pub returns-in_err-body : goal.returns-in_err-body
returns-in_err-body c =
    let p = err_from_is_err_and c.from_residual.result c.from_residual.ensures.1 in
    rw (p.1, p.2) (not_sealed c.args.bytes.now c.args.most c.in_err-body.field-0.0 c.in_err-body.ensures)

pub returns-in_err-test_orders : goal.returns-in_err-test_orders
returns-in_err-test_orders c =
    let p = err_from_is_err_and c.from_residual-in_err-test_orders.result c.from_residual-in_err-test_orders.ensures.1 in
    let body = c.in_ok-body.body.now in
    let text = text_of c.args.bytes.now body c.in-Some.balance c.in_ok-body.ensures (some_body body c.in_ok-balance.field-0 c.in-Some.balance c.in_ok-balance.ensures c.in-Some.is) in
    rw (p.1, p.2) (not_ordered c.args.bytes.now c.args.most c.in-Some.balance text (omega (arith, c.if-balance-most.false)) c.in_err-test_orders.field-0.0 c.in_err-test_orders.ensures)

pub returns : goal.returns
returns c =
    let body = c.in_ok-body.body.now in
    let text = text_of c.args.bytes.now body c.in-Some.balance c.in_ok-body.ensures (some_body body c.in_ok-balance.field-0 c.in-Some.balance c.in_ok-balance.ensures c.in-Some.is) in
    (text, omega (arith, c.if-balance-most.false), c.in_ok-test_orders.ensures)
