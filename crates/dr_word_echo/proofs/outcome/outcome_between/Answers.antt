use Rattle.std.proofs.Common.{inr}
use Rattle.dr_word_echo.proofs.Between.{between}
use Rattle.dr_word_echo.proofs.outcome.outcome_between.Goals as goal

pub returns-in_default-known_node : goal.returns-in_default-known_node
returns-in_default-known_node g c = inr c.in_default-known_node.ensures.node

pub returns-in_default-address : goal.returns-in_default-address
returns-in_default-address g c = (c.in-Some._known.now, c.in-Some-known_node.node.now, c.in-Some.ensures.node, c.in-Some-known_node.ensures.node, c.in_default-address.ensures)

pub returns : goal.returns
returns g c =
    between (g.N.Network.connects c.args.network.now) g.N.Socket.Link.hears g.N.Socket.Link.sends g.N.Socket.Link.closes (g.C.Clock.tells c.args.clock.now) c.args.plan.now c.args.caller.now c.args.called.now
    c.in-Some._known.now c.in-Some-known_node.node.now c.in-Some.ensures.node c.in-Some-known_node.ensures.node c.in-Some-address.address.now c.in-Some-address.ensures c.ask.result c.ask.ensures
