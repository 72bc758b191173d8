use Rattle.dr_run_answer.proofs.Counted.{noted_is_counted, noted_is_kept, nothing_is_counted, old_is_let_go, recent_is_what_came}
use Rattle.dr_run_answer.proofs.laws.what_is_noted_counts.Goals as goal

pub returns-clause-nothing : goal.returns-clause-nothing
returns-clause-nothing c = nothing_is_counted

pub returns-clause-callers : goal.returns-clause-callers
returns-clause-callers c = noted_is_counted

pub returns-clause-minutes : goal.returns-clause-minutes
returns-clause-minutes c = noted_is_kept

pub returns-clause-old : goal.returns-clause-old
returns-clause-old c = old_is_let_go

pub returns-clause-recent : goal.returns-clause-recent
returns-clause-recent c = recent_is_what_came
