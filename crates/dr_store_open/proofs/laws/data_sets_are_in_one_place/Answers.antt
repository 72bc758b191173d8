use Rattle.dr_store_open.proofs.Wholly.{places_are_one}
use Rattle.dr_store_open.proofs.laws.data_sets_are_in_one_place.Goals as goal

pub returns : goal.returns
returns c = places_are_one
