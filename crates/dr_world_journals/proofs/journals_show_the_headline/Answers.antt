use Rattle.dr_world_journals.proofs.Shown.{all_journals_show_the_headline, matching_journals_show_the_headline}
use Rattle.dr_world_journals.proofs.journals_show_the_headline.Goals as goal

pub returns-clause-among : goal.returns-clause-among
returns-clause-among c = matching_journals_show_the_headline

pub returns-clause-all : goal.returns-clause-all
returns-clause-all c = all_journals_show_the_headline
