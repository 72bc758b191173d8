use Rattle.std.proofs.Common.{refl}
use Rattle.std.specs.Fmt.{digits}
use Rattle.hex.proofs.OnLiterals.{hex_on_literals}
use Rattle.dr_run_answer.proofs.Responded.{nothing_was_sent, responded_is_counted}
use Rattle.dr_run_answer.proofs.laws.responses_are_counted.Goals as goal

pub returns-clause-counted : goal.returns-clause-counted
returns-clause-counted c = (nothing_was_sent, responded_is_counted)

pub returns-clause-written : goal.returns-clause-written
unfolding digits hex_on_literals
returns-clause-written c = (refl, refl)
