use Rattle.dr_world.proofs.Listed.{world_same}
use Rattle.dr_world.proofs.world.World.report.Goals as goal

pub returns-clause-same : goal.returns-clause-same
returns-clause-same g c = world_same c.args.self.now c.report_each.new.nodes c.report_each.ensures.same
