use Rattle.dr_world_journals.proofs.Among.{all_runs_leave_matching_journals, runs_leave_matching_journals}
use Rattle.dr_world_journals.proofs.runs_leave_matching_journals.Goals as goal

pub returns-clause-among : goal.returns-clause-among
returns-clause-among c = runs_leave_matching_journals

pub returns-clause-all : goal.returns-clause-all
returns-clause-all c = all_runs_leave_matching_journals
