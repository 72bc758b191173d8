use Rattle.std.proofs.Common.{◌≡◌, List, Bool, length}
use Rattle.dr_run_serve.specs.Sweeps.{Chain, ForgetsOne, counted_all}
use Rattle.dr_run_serve.proofs.sweeper.forget_due.Given as goal

abbrev pub invariant-loop-turn : goal.invariant-loop-turn
invariant-loop-turn g l = (each : List Bool)
    × Chain (ForgetsOne g.L.Ledger.site g.L.Ledger.book g.L.Ledger.stands g.L.Ledger.failed g.B.Sharing.site g.B.Sharing.first l.since) each
    (l.initial.sweep.queue.items, (l.initial.pass.made.count, l.initial.pass.receipts.items))
    (l.sweep.queue.items, (l.pass.made.count, l.pass.receipts.items))
    × (l.count ≡ counted_all 0 each)
    × (length each ≡ l._turn)
