use Rattle.dr_base.proofs.RunLemmas.{run_more, run_append}
use Rattle.dr_base.proofs.laws.a_run_goes_on.Goals as goal

pub returns-clause-by_one : goal.returns-clause-by_one
returns-clause-by_one g c = run_more g.P.TextPart.starts

pub returns-clause-by_more : goal.returns-clause-by_more
returns-clause-by_more g c = run_append g.P.TextPart.starts
