use Rattle.dr_plan_model.proofs.WalksAlike.{exceptions_are_named, earlier_have_none}
use Rattle.dr_plan_model.proofs.laws.exceptions_are_named.Goals as goal

pub returns-clause-named : goal.returns-clause-named
returns-clause-named c = exceptions_are_named

pub returns-clause-earlier : goal.returns-clause-earlier
returns-clause-earlier c = earlier_have_none
