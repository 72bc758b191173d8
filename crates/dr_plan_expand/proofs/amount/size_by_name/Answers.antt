use Rattle.dr_plan_expand.proofs.Summed.{defined_some, defined_none}
use Rattle.dr_plan_expand.proofs.amount.size_by_name.Goals as goal

pub returns-in-Some : goal.returns-in-Some
returns-in-Some c = defined_some c.args.definitions.now c.args.name.now c.in-Some.words.now c.args.other c.in-Some.ensures

pub returns-in-None : goal.returns-in-None
returns-in-None c = defined_none c.args.definitions.now c.args.name.now c.args.other c.in-None.ensures
