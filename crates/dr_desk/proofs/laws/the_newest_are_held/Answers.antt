use Rattle.dr_desk.proofs.Recorded.{few_are_held, no_more_are_held}
use Rattle.dr_desk.proofs.laws.the_newest_are_held.Goals as goal

pub returns-clause-few : goal.returns-clause-few
returns-clause-few c = few_are_held

pub returns-clause-most : goal.returns-clause-most
returns-clause-most c = no_more_are_held
