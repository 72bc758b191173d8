use Rattle.std.proofs.Common.{Result}
use Rattle.dr_ledger.specs.declared.fault.LedgerFault.{LedgerFault}
use Rattle.dr_run_open.specs.declared.hops.NextHop.{NextHop}
use Rattle.dr_run_serve.proofs.InTurn.{toward_next, toward_fault, toward_end}
use Rattle.dr_run_serve.specs.Visits.{Visits}
use Rattle.dr_run_serve.specs.declared.visit.Visit.{Visit}
use Rattle.dr_run_serve.proofs.sending.visit_each.Goals as goal

pub loop-hop-init : goal.loop-hop-init
loop-hop-init g c = λ result t h. h

pub loop-hop-preserved : goal.loop-hop-preserved
loop-hop-preserved g c =
    let One : NextHop → g.row.P.Denot → Result Visit LedgerFault → g.row.P.Denot → Type 0 = λ hop s came t. Visits (g.N.Network.connects c.args.network.now) g.N.Socket.Link.hears g.N.Socket.Link.sends g.N.Socket.Link.closes g.P.DeskPort.step g.P.Tallied.finds g.P.Tallied.taken (g.C.Clock.tells c.args.clock.now) c.args.site.now hop.dest hop.address s came t in
    toward_next One c.args.port.now c.loop-hop.port c.visit_hop.new.port c.args.hops.now c.loop-hop.hop-index c.hop-item.result c.hop-item.result c.in_ok-_visited._visited
    c.loop-hop-test.true c.loop-hop.invariant c.hop-item.is c.in_ok-_visited.ensures

pub returns-in_err-_visited : goal.returns-in_err-_visited
returns-in_err-_visited g c =
    let One : NextHop → g.row.P.Denot → Result Visit LedgerFault → g.row.P.Denot → Type 0 = λ hop s came t. Visits (g.N.Network.connects c.args.network.now) g.N.Socket.Link.hears g.N.Socket.Link.sends g.N.Socket.Link.closes g.P.DeskPort.step g.P.Tallied.finds g.P.Tallied.taken (g.C.Clock.tells c.args.clock.now) c.args.site.now hop.dest hop.address s came t in
    toward_fault One c.args.port.now c.loop-hop.port c.visit_hop.new.port c.args.hops.now c.loop-hop.hop-index c.hop-item.result c.hop-item.result c.in_err-_visited.field-0.0 c.from_residual.result c.from_residual.ensures.0 c.from_residual.ensures.1
    c.loop-hop-test.true c.loop-hop.invariant c.hop-item.is c.in_err-_visited.ensures

pub returns : goal.returns
returns g c =
    let One : NextHop → g.row.P.Denot → Result Visit LedgerFault → g.row.P.Denot → Type 0 = λ hop s came t. Visits (g.N.Network.connects c.args.network.now) g.N.Socket.Link.hears g.N.Socket.Link.sends g.N.Socket.Link.closes g.P.DeskPort.step g.P.Tallied.finds g.P.Tallied.taken (g.C.Clock.tells c.args.clock.now) c.args.site.now hop.dest hop.address s came t in
    toward_end One c.args.port.now c.loop-hop.port c.args.hops.now c.loop-hop.hop-index c.loop-hop-test.false c.loop-hop.invariant
