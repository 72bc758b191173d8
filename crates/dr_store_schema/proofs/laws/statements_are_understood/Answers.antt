use Rattle.dr_store_schema.proofs.Understood.{statements_are_understood}
use Rattle.dr_store_schema.proofs.laws.statements_are_understood.Goals as goal

pub returns : goal.returns
returns c = statements_are_understood
