use Rattle.dr_world_tie.proofs.Laws.{ends_may_be_asked, ends_may_meet, no_request_is_written}
use Rattle.dr_world_tie.proofs.Laws.{what_comes_comes_now, what_is_no_bytes_may_come}
use Rattle.dr_world_tie.proofs.ends_may_meet.Goals as goal

pub returns-clause-comes : goal.returns-clause-comes
returns-clause-comes c = what_is_no_bytes_may_come

pub returns-clause-meets : goal.returns-clause-meets
returns-clause-meets c = ends_may_meet

pub returns-clause-asked : goal.returns-clause-asked
returns-clause-asked c = ends_may_be_asked

pub returns-clause-now : goal.returns-clause-now
returns-clause-now c = what_comes_comes_now

pub returns-clause-written : goal.returns-clause-written
returns-clause-written c = no_request_is_written
