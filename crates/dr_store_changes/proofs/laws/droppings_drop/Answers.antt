use Rattle.dr_store_changes.proofs.Dropped.{droppings_drop}
use Rattle.dr_store_changes.proofs.laws.droppings_drop.Goals as goal

pub returns : goal.returns
returns c = droppings_drop
