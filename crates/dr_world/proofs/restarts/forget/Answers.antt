use Rattle.std.proofs.Common.{sym, get_or}
use Rattle.std.proofs.lemmas.List.{take_more}
use Rattle.dr_world.proofs.Restarting.{none_forgotten, forgotten_more, all_forgotten}
use Rattle.dr_world.proofs.restarts.forget.Goals as goal

pub loop-link-init : goal.loop-link-init
loop-link-init c = none_forgotten c.args.wires.now

pub loop-link-preserved : goal.loop-link-preserved
loop-link-preserved c =
    forgotten_more c.args.links.now c.loop-link.link-index (get_or c.args.links.now c.loop-link.link-index 0) c.args.wires.now c.loop-link.wires c.forget_one.new.wires c.loop-link.invariant c.forget_one.ensures.0
    (sym (take_more c.args.links.now c.loop-link.link-index 0 c.loop-link-test.true))

pub returns : goal.returns
returns c = all_forgotten c.args.links.now c.loop-link.link-index c.args.wires.now c.loop-link.wires c.loop-link-test.false c.loop-link.invariant
