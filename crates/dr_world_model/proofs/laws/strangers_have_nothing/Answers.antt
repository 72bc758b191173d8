use Rattle.dr_world_model.proofs.Orderly.{time_is_bounded}
use Rattle.dr_world_model.proofs.Unknown.{strangers_have_nothing}
use Rattle.dr_world_model.proofs.laws.strangers_have_nothing.Goals as goal

pub returns-clause-nothing : goal.returns-clause-nothing
returns-clause-nothing c = strangers_have_nothing

pub returns-clause-time : goal.returns-clause-time
returns-clause-time c = time_is_bounded
