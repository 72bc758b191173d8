use Rattle.dr_plan_model.proofs.WalksAlike.{no_rule_keeps, local_never_sent_to}
use Rattle.dr_plan_model.proofs.laws.the_local_caller_is_no_node.Goals as goal

pub returns-clause-keeps : goal.returns-clause-keeps
returns-clause-keeps c = λ plan name key kept. no_rule_keeps kept.0.rules key kept.2

pub returns-clause-sends : goal.returns-clause-sends
returns-clause-sends c = local_never_sent_to
