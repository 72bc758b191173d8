use Rattle.std.proofs.Common.{◌≡◌, ℕ, List}
use Rattle.dr_run_serve.specs.Keeps.{KeepsOnce}
use Rattle.dr_run_serve.specs.Pasts.{TellsPage}
use Rattle.dr_run_serve.specs.Sweeps.{Chain, sweeping}
use Rattle.dr_run_serve.specs.declared.shutting.EndStage.TheVariants.{Serving}
use Rattle.dr_run_serve.proofs.keeper.keep_on.Given as goal

abbrev pub invariant-loop-look : goal.invariant-loop-look
invariant-loop-look g l =
    ((each : List ℕ)
    × Chain (KeepsOnce g.L.Ledger.site g.L.Ledger.book g.L.Ledger.stands g.L.Ledger.failed g.B.Sharing.site g.B.Sharing.first (TellsPage g.L.Ledger.site g.L.Ledger.book g.L.Ledger.bodies g.L.Ledger.stands g.L.Ledger.failed g.B.Sharing.site g.B.Sharing.first g.L.Views.numbered) (g.C.Clock.tells l.node.clock.now) l.initial.sweeper.after) each
    (Serving, sweeping l.initial.sweeper.next l.initial.sweeper.sweep l.initial.sweeper.past l.initial.sweeper.pass.made.count l.initial.sweeper.pass.receipts.items)
    (l.stage, sweeping l.sweeper.next l.sweeper.sweep l.sweeper.past l.sweeper.pass.made.count l.sweeper.pass.receipts.items))
    × (l.sweeper.after ≡ l.initial.sweeper.after)
