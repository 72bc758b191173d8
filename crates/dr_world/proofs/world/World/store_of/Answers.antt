use Rattle.std.proofs.Common.{rules}
use Rattle.dr_world.proofs.world.World.store_of.Goals as goal

pub returns : goal.returns
returns g c = (
  c.in-Some.wires.now,
  c.in-Some-context_at.context,
  search rules,
  search rules,
  search rules,
  search rules,
  search rules,
)
