use Rattle.std.proofs.Common.{◌∙◌, sym}
use Rattle.std.proofs.lemmas.Bool.{false≢true}
use Rattle.dr_run_serve.specs.Sendings.{IsTold, TellsDue, VisitsBy}
use Rattle.dr_run_serve.proofs.Along.{sends_along}
use Rattle.dr_run_serve.proofs.sender.look.Goals as goal

pub returns-then-not-is_visited-clause-looks : goal.returns-then-not-is_visited-clause-looks
returns-then-not-is_visited-clause-looks g c =
    (c.now.result, c.heed.ensures.heeds, c.now.ensures.tells, λ due. absurd (false≢true (sym c.if-not-is_visited.true ∙ c.is_visited.ensures.1 due)))

pub returns-clause-looks : goal.returns-clause-looks
returns-clause-looks g c =
    let sent = sends_along (VisitsBy g.L.Ledger.site g.L.Ledger.book g.L.Ledger.bodies g.L.Ledger.stands g.L.Ledger.failed g.B.Sharing.site g.B.Sharing.first (g.N.Network.connects c.args.network.now) g.N.Socket.Link.hears g.N.Socket.Link.sends g.N.Socket.Link.closes (g.C.Clock.tells c.args.node.now.clock.now) c.args.node.now.desk.now.site) (IsTold g.L.Ledger.site g.L.Ledger.book g.L.Ledger.bodies g.L.Ledger.stands g.L.Ledger.failed g.B.Sharing.site g.B.Sharing.first) (TellsDue g.L.Ledger.site g.L.Ledger.book g.L.Ledger.bodies g.L.Ledger.stands g.L.Ledger.failed g.B.Sharing.site g.B.Sharing.first) (g.C.Clock.tells c.args.node.now.clock.now)
    c.heed.new.sender.hop.dest c.args.sender.now.hop.dest c.heed.new.sender.hop.address c.args.sender.now.hop.address
    c.heed.new.sender.rest c.send_or_rest-came.result c.send_or_rest-came.new.sender.rest c.send_or_rest-came.new.sender.hop.due c.heed.ensures.hop.0 c.heed.ensures.hop.1 c.send_or_rest-came.ensures.sends in
    ((c.heed.new.sender.rest, c.heed.new.sender.hop.due), c.now.result, c.send_or_rest-came.result, c.heed.ensures.heeds, c.now.ensures.tells, c.is_visited.ensures.0 c.if-not-is_visited.false, sent)
