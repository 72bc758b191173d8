use Rattle.dr_store_open.proofs.Opens.{in_their_places}
use Rattle.dr_store_open.proofs.laws.shelves_are_in_their_places.Goals as goal

pub returns : goal.returns
returns g c place shelf at = in_their_places place shelf at
