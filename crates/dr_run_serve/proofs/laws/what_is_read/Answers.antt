use Rattle.dr_run_serve.proofs.Wholly.{beginnings_are_read, the_whole_is_read}
use Rattle.dr_run_serve.proofs.laws.what_is_read.Goals as goal

pub returns-clause-begins : goal.returns-clause-begins
returns-clause-begins c = beginnings_are_read

pub returns-clause-whole : goal.returns-clause-whole
returns-clause-whole c = the_whole_is_read
