use Rattle.dr_world.proofs.Linking.{pushing}
use Rattle.dr_world.proofs.world.World.push.Goals as goal

pub returns : goal.returns
returns g c = pushing c.args.self.now c.send.new.self c.in_ok-note.note c.args.link c.in_ok-note.ensures
