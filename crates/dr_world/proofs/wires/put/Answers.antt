use Rattle.dr_world.proofs.Putting.{nothing_put, one_more_put, all_put}
use Rattle.dr_world.proofs.wires.put.Goals as goal

pub loop-action-init : goal.loop-action-init
loop-action-init c = nothing_put c.args.wire.now.items c.args.actions.now

pub loop-action-preserved : goal.loop-action-preserved
loop-action-preserved c =
    one_more_put c.args.wire.now.items c.loop-action.wire.items c.put_one.new.wire.items c.args.actions.now c.loop-action.action-index c.action-item.result c.loop-action-test.true c.loop-action.invariant
    c.in_ok-put_one.ensures c.action-item.is

pub returns : goal.returns
returns c = all_put c.args.wire.now.items c.loop-action.wire.items c.args.actions.now c.loop-action.action-index c.loop-action-test.false c.loop-action.invariant
