use Rattle.dr_run_serve.proofs.Turning.{turns_no_more, turns_then}
use Rattle.dr_run_serve.specs.Pasts.{TellsPage}
use Rattle.dr_run_serve.specs.Sweeps.{sweeping}
use Rattle.dr_run_serve.proofs.keeper.sweep_if.Goals as goal

pub returns-then-not-serves-clause-turns : goal.returns-then-not-serves-clause-turns
returns-then-not-serves-clause-turns g c =
    let old = c.args.sweeper.now in
    turns_no_more g.L.Ledger.site g.L.Ledger.book g.L.Ledger.stands g.L.Ledger.failed g.B.Sharing.site g.B.Sharing.first
    (TellsPage g.L.Ledger.site g.L.Ledger.book g.L.Ledger.bodies g.L.Ledger.stands g.L.Ledger.failed g.B.Sharing.site g.B.Sharing.first g.L.Views.numbered)
    (g.C.Clock.tells c.args.node.now.clock.now) old.after (sweeping old.next old.sweep old.past old.pass.made.count old.pass.receipts.items) c.args.serves c.if-not-serves.true

pub returns-clause-turns : goal.returns-clause-turns
returns-clause-turns g c =
    let old = c.args.sweeper.now in
    let new = c.turn-came.new.self in
    turns_then g.L.Ledger.site g.L.Ledger.book g.L.Ledger.stands g.L.Ledger.failed g.B.Sharing.site g.B.Sharing.first
    (TellsPage g.L.Ledger.site g.L.Ledger.book g.L.Ledger.bodies g.L.Ledger.stands g.L.Ledger.failed g.B.Sharing.site g.B.Sharing.first g.L.Views.numbered)
    (g.C.Clock.tells c.args.node.now.clock.now) old.after (sweeping old.next old.sweep old.past old.pass.made.count old.pass.receipts.items) c.args.serves c.turn-came.result
    (sweeping new.next new.sweep new.past new.pass.made.count new.pass.receipts.items) c.if-not-serves.false
    (c.now.result, c.now.ensures.tells, c.turn-came.ensures.turns, c.turn-came.ensures.next.1)

pub returns-clause-terms : goal.returns-clause-terms
returns-clause-terms g c = c.turn-came.ensures.next.0
