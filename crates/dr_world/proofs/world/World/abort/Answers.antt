use Rattle.dr_world.specs.Ends.{named}
use Rattle.dr_world.proofs.Linking.{aborting}
use Rattle.dr_world.proofs.world.World.abort.Goals as goal

pub returns : goal.returns
returns g c = aborting c.args.self.now c.meet.new.self c.in_ok-note.note c.args.link (named c.args.side) c.in_ok-note.ensures
