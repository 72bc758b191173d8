use Rattle.std.proofs.Common.{◌≡◌, Bool, List}
use Rattle.dr_run_serve.specs.Sendings.{IsTold, LooksOnce, TellsDue, VisitsBy}
use Rattle.dr_run_serve.specs.Sweeps.{Chain}
use Rattle.dr_run_serve.specs.declared.signal.WakeUp.{WakeUp}
use Rattle.dr_run_serve.proofs.sender.send_rows.Given as goal

abbrev pub invariant-loop-look : goal.invariant-loop-look
invariant-loop-look g l =
    ((each : List (WakeUp × Bool))
    × Chain (LooksOnce (VisitsBy g.L.Ledger.site g.L.Ledger.book g.L.Ledger.bodies g.L.Ledger.stands g.L.Ledger.failed g.B.Sharing.site g.B.Sharing.first (g.N.Network.connects l.network) g.N.Socket.Link.hears g.N.Socket.Link.sends g.N.Socket.Link.closes (g.C.Clock.tells l.node.clock.now) l.node.desk.now.site l.initial.sender.hop.dest l.initial.sender.hop.address) (IsTold g.L.Ledger.site g.L.Ledger.book g.L.Ledger.bodies g.L.Ledger.stands g.L.Ledger.failed g.B.Sharing.site g.B.Sharing.first) (TellsDue g.L.Ledger.site g.L.Ledger.book g.L.Ledger.bodies g.L.Ledger.stands g.L.Ledger.failed g.B.Sharing.site g.B.Sharing.first l.initial.sender.hop.dest) (g.C.Clock.tells l.node.clock.now) (g.W.Calling.calls l.calling l.number)) each
    (l.initial.sender.rest, l.initial.sender.hop.due) (l.sender.rest, l.sender.hop.due))
    × (l.sender.hop.dest ≡ l.initial.sender.hop.dest)
    × (l.sender.hop.address ≡ l.initial.sender.hop.address)
