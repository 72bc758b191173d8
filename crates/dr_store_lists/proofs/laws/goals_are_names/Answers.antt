use Rattle.dr_store_lists.proofs.Alike.{goals_are_names}
use Rattle.dr_store_lists.proofs.laws.goals_are_names.Goals as goal

pub returns : goal.returns
returns c = goals_are_names
