use Rattle.dr_world_audit.proofs.Targets.{targets_are}
use Rattle.dr_world_audit.proofs.trail.targets_of.Goals as goal

pub returns : goal.returns
returns c = targets_are c.args.site.now c.args.caller.now c.args.key.now c.in_ok-targets.targets.to c.in_ok-targets.ensures.to c.in_ok-targets.ensures.ordered
