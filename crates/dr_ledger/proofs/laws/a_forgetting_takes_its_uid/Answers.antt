use Rattle.dr_ledger.proofs.Overs.{forgettings_take_their_uid, forgotten_is_new, forgotten_is_not_over, nothing_owed_is_forgotten, nothing_unknown_is_over}
use Rattle.dr_ledger.proofs.laws.a_forgetting_takes_its_uid.Goals as goal

pub returns-clause-takes : goal.returns-clause-takes
returns-clause-takes g c = forgettings_take_their_uid

pub returns-clause-owed : goal.returns-clause-owed
returns-clause-owed g c = nothing_owed_is_forgotten

pub returns-clause-unknown : goal.returns-clause-unknown
returns-clause-unknown g c = nothing_unknown_is_over

pub returns-clause-once : goal.returns-clause-once
returns-clause-once g c = forgotten_is_not_over

pub returns-clause-again : goal.returns-clause-again
returns-clause-again g c = forgotten_is_new g.R.Routed.routing
