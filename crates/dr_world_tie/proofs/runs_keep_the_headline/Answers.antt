use Rattle.dr_world_tie.proofs.World.{runs_keep, kept_stays}
use Rattle.dr_world_tie.proofs.runs_keep_the_headline.Goals as goal

pub returns-clause-headline : goal.returns-clause-headline
returns-clause-headline c = runs_keep

pub returns-clause-kept : goal.returns-clause-kept
returns-clause-kept c = kept_stays
