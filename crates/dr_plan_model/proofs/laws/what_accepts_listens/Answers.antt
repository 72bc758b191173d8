use Rattle.dr_plan_model.proofs.NodesListen.{nowhere_accepts, earlier_bind}
use Rattle.dr_plan_model.proofs.laws.what_accepts_listens.Goals as goal

pub returns-clause-nowhere : goal.returns-clause-nowhere
returns-clause-nowhere c = nowhere_accepts

pub returns-clause-earlier : goal.returns-clause-earlier
returns-clause-earlier c = earlier_bind
