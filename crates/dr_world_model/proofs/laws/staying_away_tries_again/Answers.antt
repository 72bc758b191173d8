use Rattle.dr_world_model.proofs.StayedAway.{away_tries_again, refused_away_is_nothing, away_leaves_all_else}
use Rattle.dr_world_model.proofs.laws.staying_away_tries_again.Goals as goal

pub returns-clause-again : goal.returns-clause-again
returns-clause-again c = away_tries_again

pub returns-clause-refused : goal.returns-clause-refused
returns-clause-refused c = refused_away_is_nothing

pub returns-clause-else_stays : goal.returns-clause-else_stays
returns-clause-else_stays c = away_leaves_all_else
