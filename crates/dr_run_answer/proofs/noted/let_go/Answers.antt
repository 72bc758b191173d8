use Rattle.std.proofs.Common.{rules}
use Rattle.std.proofs.lemmas.Fn.{filter_same}
use Rattle.dr_run_answer.specs.Intakes.{is_of_hour}
use Rattle.dr_run_answer.specs.declared.noted.Minute.{Minute}
use Rattle.dr_run_answer.proofs.noted.let_go.Goals as goal

pub returns : goal.returns
returns c = filter_same _ (λ (one : Minute). is_of_hour c.args.now one.minute) _ (λ x b f' k. (search rules, search rules)) _ _ c.retain.ensures.filtered
