use Rattle.std.proofs.Common.{arith}
use Rattle.std.proofs.lemmas.Result.{err_from_is_err_and}
use Rattle.dr_ledger_balance.proofs.Rising.{all_rise, misplaced, rises_more}
use Rattle.dr_ledger_balance.proofs.orders.test_order.Goals as goal

pub loop-i-init : goal.loop-i-init
loop-i-init g c = λ k d below. absurd (omega (arith, below))

pub returns-in_err-test_pair : goal.returns-in_err-test_pair
returns-in_err-test_pair g c =
    let p = err_from_is_err_and c.from_residual.result c.from_residual.ensures.1 in
    rw (p.1, p.2)
    (misplaced g.S.Spelled.order c.args.pieces.now c.loop-i.i c.index-pieces-i.result c.index-pieces-i-in-loop-i.result c.loop-i.auto.i c.loop-i-test.true c.index-pieces-i.is c.index-pieces-i-in-loop-i.is
    c.in_err-test_pair.field-0.0 c.in_err-test_pair.ensures)

pub loop-i-preserved : goal.loop-i-preserved
loop-i-preserved g c =
    rises_more g.S.Spelled.order c.args.pieces.now c.loop-i.i c.index-pieces-i.result c.index-pieces-i-in-loop-i.result c.loop-i.auto.i c.loop-i-test.true c.index-pieces-i.is c.index-pieces-i-in-loop-i.is
    c.in_ok-test_pair.ensures c.loop-i.invariant

pub returns : goal.returns
returns g c = all_rise g.S.Spelled.order c.requires c.args.pieces.now c.loop-i.i (omega (arith, c.loop-i-test.false)) c.loop-i.invariant
