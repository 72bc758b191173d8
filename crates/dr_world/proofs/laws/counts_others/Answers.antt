use Rattle.dr_world.proofs.Counted.{others_are_counted}
use Rattle.dr_world.proofs.laws.counts_others.Goals as goal

pub returns : goal.returns
returns c = others_are_counted
