use Rattle.dr_world.proofs.Listed.{names_found}
use Rattle.dr_world.proofs.listing.names_in.Goals as goal

pub returns : goal.returns
returns g c = names_found c.args.nodes.now c.loop-name.names.items c.loop-name.name-iterator c.keys-name-items.ensures.ordered c.in-None.ensures.steps.0 c.loop-name.invariant
