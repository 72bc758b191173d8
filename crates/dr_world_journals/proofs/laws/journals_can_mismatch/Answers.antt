use Rattle.dr_world_journals.proofs.Mismatched.{each_clause_can_fail}
use Rattle.dr_world_journals.proofs.laws.journals_can_mismatch.Goals as goal

pub returns : goal.returns
returns c = each_clause_can_fail
