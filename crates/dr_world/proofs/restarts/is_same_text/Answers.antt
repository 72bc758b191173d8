use Rattle.std.proofs.lemmas.Bool.Decides.{same_from_decides}
use Rattle.dr_world_model.specs.Worlds.{same_text}
use Rattle.dr_world.proofs.Restarting.{same_told}
use Rattle.dr_world.proofs.restarts.is_same_text.Goals as goal

pub returns : goal.returns
returns c = same_from_decides c.is_same.result (same_text c.args.name.now c.args.other.now) c.is_same.ensures (same_told c.args.name.now c.args.other.now)
