use Rattle.dr_world_model.proofs.laws.what_ended_is_over.Goals as goal
use Rattle.dr_world_model.proofs.Restarting.{callers_are_those_who_call}
use Rattle.dr_world_model.proofs.Ended.{dropped_is_off as dropped_is_off_law, closed_is_gone as closed_is_gone_law, restarted_has_no_link as restarted_has_no_link_law}

pub returns-clause-dropped : goal.returns-clause-dropped
returns-clause-dropped c = λ w v number dropped. dropped_is_off_law w v number dropped

pub returns-clause-closed : goal.returns-clause-closed
returns-clause-closed c = λ w v number answer closed. closed_is_gone_law w v number answer closed

pub returns-clause-restarted : goal.returns-clause-restarted
returns-clause-restarted c = λ w v name answers restarted. restarted_has_no_link_law w v name answers restarted

pub returns-clause-callers : goal.returns-clause-callers
returns-clause-callers c = λ w name number. callers_are_those_who_call w name number
