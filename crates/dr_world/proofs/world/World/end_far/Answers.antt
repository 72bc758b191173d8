use Rattle.dr_world.specs.Ends.{named}
use Rattle.dr_world.proofs.Restarting.{heard_there, unheard}
use Rattle.dr_world.proofs.world.World.end_far.Goals as goal

pub returns-in_default : goal.returns-in_default
returns-in_default g c = unheard c.args.name.now c.args.self.now c.args.link c.in_default.ensures.value

pub returns : goal.returns
returns g c =
    heard_there c.args.name.now c.args.self.now c.meet.new.self c.args.link c.in-Some.wires.now (named c.far_side-side.result) c.in_ok-_note._note c.ended.result c.in-Some.ensures.value c.far_side-side.ensures c.ended.ensures c.in_ok-_note.ensures
