use Rattle.dr_world_model.proofs.Ended.{refused_callers_leave, settled_before_stays}
use Rattle.dr_world_model.proofs.laws.refused_callers_leave.Goals as goal

pub returns-clause-refused : goal.returns-clause-refused
returns-clause-refused c = refused_callers_leave

pub returns-clause-before : goal.returns-clause-before
returns-clause-before c = settled_before_stays
