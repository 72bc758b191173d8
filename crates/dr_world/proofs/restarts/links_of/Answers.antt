use Rattle.dr_world.proofs.Restarting.{links_found}
use Rattle.dr_world.proofs.restarts.links_of.Goals as goal

pub returns : goal.returns
returns c = links_found c.args.name.now c.args.wires.now c.loop-number.numbers.items c.loop-number.number-iterator c.keys-number-items.ensures.ordered c.in-None.ensures.steps.0 c.loop-number.invariant
