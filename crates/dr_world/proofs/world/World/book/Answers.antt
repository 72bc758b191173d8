use Rattle.dr_world.proofs.Listed.{world_same}
use Rattle.dr_world.proofs.world.World.book.Goals as goal

pub returns-clause-same : goal.returns-clause-same
returns-clause-same g c = world_same c.args.self.now c.list_at.new.nodes c.list_at.ensures.same
