use Rattle.dr_store_calls.proofs.Adoptions.{adoptions_adopt}
use Rattle.dr_store_calls.proofs.adoption_laws.adoptions_adopt.Goals as goal

pub returns : goal.returns
returns c = adoptions_adopt
