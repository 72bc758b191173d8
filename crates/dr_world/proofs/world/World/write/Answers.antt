use Rattle.dr_world.proofs.Played.{writes_go_on, writes_unfailed}
use Rattle.dr_world.proofs.world.World.write.Goals as goal

pub returns-clause-plays : goal.returns-clause-plays
returns-clause-plays g c = writes_go_on c.args.self.now c.set_wire.new.self c.args.link c.args.side c.args.bytes.now c.in-Ok.note c.in-Ok.ensures

pub returns-clause-writes : goal.returns-clause-writes
returns-clause-writes g c = writes_unfailed c.args.self.now c.set_wire.new.self c.args.link c.args.side c.args.bytes.now c.in-Ok.note c.in-Ok.ensures
