use Rattle.dr_run_control.proofs.InTurn.{toward_next, toward_fault, toward_end}
use Rattle.dr_run_control.proofs.reads.DeskClerk.requeue_each.Goals as goal

pub loop-row-init : goal.loop-row-init
loop-row-init g c = λ result t h. h

pub loop-row-preserved : goal.loop-row-preserved
loop-row-preserved g c =
    toward_next g.L.Ledger.site g.L.Ledger.book g.L.Ledger.stands g.L.Ledger.failed g.B.Sharing.site g.B.Sharing.first c.args.dest.now
    (c.args.pass.now.made.count, c.args.pass.now.receipts.items) (c.loop-row.pass.made.count, c.loop-row.pass.receipts.items) (c.requeue_one.new.pass.made.count, c.requeue_one.new.pass.receipts.items)
    c.args.rows.now c.loop-row.row-index c.row-item.result c.row-item.result
    c.loop-row-test.true c.loop-row.invariant c.row-item.is c.in_ok-_done.ensures

pub returns-in_err-_done : goal.returns-in_err-_done
returns-in_err-_done g c =
    toward_fault g.L.Ledger.site g.L.Ledger.book g.L.Ledger.stands g.L.Ledger.failed g.B.Sharing.site g.B.Sharing.first c.args.dest.now
    (c.args.pass.now.made.count, c.args.pass.now.receipts.items) (c.loop-row.pass.made.count, c.loop-row.pass.receipts.items) (c.requeue_one.new.pass.made.count, c.requeue_one.new.pass.receipts.items)
    c.args.rows.now c.loop-row.row-index c.row-item.result c.row-item.result c.in_err-_done.field-0.0 c.from_residual.result c.from_residual.ensures.0 c.from_residual.ensures.1
    c.loop-row-test.true c.loop-row.invariant c.row-item.is c.in_err-_done.ensures

pub returns : goal.returns
returns g c =
    toward_end g.L.Ledger.site g.L.Ledger.book g.L.Ledger.stands g.L.Ledger.failed g.B.Sharing.site g.B.Sharing.first c.args.dest.now
    (c.args.pass.now.made.count, c.args.pass.now.receipts.items) (c.loop-row.pass.made.count, c.loop-row.pass.receipts.items)
    c.args.rows.now c.loop-row.row-index c.loop-row-test.false c.loop-row.invariant
