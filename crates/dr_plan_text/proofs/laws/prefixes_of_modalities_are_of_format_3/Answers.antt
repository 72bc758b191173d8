use Rattle.dr_plan_text.proofs.ModalityTexts.{rule_prefix, rule_of_2, flow_prefix, flow_of_2}
use Rattle.dr_plan_text.proofs.laws.prefixes_of_modalities_are_of_format_3.Goals as goal

pub returns-clause-rule : goal.returns-clause-rule
returns-clause-rule c = rule_prefix

pub returns-clause-rule_of_2 : goal.returns-clause-rule_of_2
returns-clause-rule_of_2 c = rule_of_2

pub returns-clause-flow : goal.returns-clause-flow
returns-clause-flow c = flow_prefix

pub returns-clause-flow_of_2 : goal.returns-clause-flow_of_2
returns-clause-flow_of_2 c = flow_of_2
