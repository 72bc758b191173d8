use Rattle.dr_world.proofs.Listed.{world_same}
use Rattle.dr_world.proofs.world.World.has_body.Goals as goal

pub returns-clause-same : goal.returns-clause-same
returns-clause-same g c = world_same c.args.self.now c.has_body_at.new.nodes c.has_body_at.ensures.same
