use Rattle.dr_plan_text.proofs.PrefixTexts.{rule_prefix, rule_of_1, flow_prefix, flow_of_1}
use Rattle.dr_plan_text.proofs.laws.prefixes_are_of_format_2.Goals as goal

pub returns-clause-rule : goal.returns-clause-rule
returns-clause-rule c = rule_prefix

pub returns-clause-rule_of_1 : goal.returns-clause-rule_of_1
returns-clause-rule_of_1 c = rule_of_1

pub returns-clause-flow : goal.returns-clause-flow
returns-clause-flow c = flow_prefix

pub returns-clause-flow_of_1 : goal.returns-clause-flow_of_1
returns-clause-flow_of_1 c = flow_of_1
