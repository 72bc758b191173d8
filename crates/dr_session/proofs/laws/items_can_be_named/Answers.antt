use Rattle.dr_session.proofs.Named.{items_are_named}
use Rattle.dr_session.proofs.laws.items_can_be_named.Goals as goal

pub returns : goal.returns
returns c = items_are_named
