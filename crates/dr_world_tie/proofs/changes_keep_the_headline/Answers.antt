use Rattle.dr_world_tie.proofs.Changes.{changes_keep_the_headline, kept_stays_through}
use Rattle.dr_world_tie.proofs.changes_keep_the_headline.Goals as goal

pub returns-clause-headline : goal.returns-clause-headline
returns-clause-headline c = changes_keep_the_headline

pub returns-clause-kept : goal.returns-clause-kept
returns-clause-kept c = kept_stays_through
