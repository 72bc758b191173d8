use Rattle.std.proofs.Common.{refl}
use Rattle.std.specs.Fmt.{digits}
use Rattle.dr_run_answer.proofs.laws.times_are_written_so.Goals as goal

pub returns : goal.returns
unfolding digits
returns c = (refl, refl)
