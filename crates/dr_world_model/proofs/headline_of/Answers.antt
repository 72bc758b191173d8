use Rattle.dr_world_model.proofs.FromSafety.{headline_holds}
use Rattle.dr_world_model.proofs.headline_of.Goals as goal

pub returns : goal.returns
returns c = headline_holds c.args.sealed.now.plan c.plan-plan.ensures.sound
