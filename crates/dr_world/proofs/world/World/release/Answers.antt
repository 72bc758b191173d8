use Rattle.dr_world.proofs.Linking.{releasing}
use Rattle.dr_world.proofs.world.World.release.Goals as goal

pub returns : goal.returns
returns g c = releasing c.args.self.now c.meet.new.self c.in_ok-note.note c.args.link c.in_ok-note.ensures
