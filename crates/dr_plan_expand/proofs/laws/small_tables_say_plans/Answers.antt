use Rattle.dr_plan_expand.proofs.SmallSaid.{no_word, node, marked, empty_rule, rule, row, flow, definitions, second_format}
use Rattle.dr_plan_expand.proofs.laws.small_tables_say_plans.Goals as goal

pub returns-clause-words : goal.returns-clause-words
returns-clause-words c = no_word

pub returns-clause-node : goal.returns-clause-node
returns-clause-node c = node

pub returns-clause-marked : goal.returns-clause-marked
returns-clause-marked c = marked

pub returns-clause-empty : goal.returns-clause-empty
returns-clause-empty c = empty_rule

pub returns-clause-rule : goal.returns-clause-rule
returns-clause-rule c = rule

pub returns-clause-row : goal.returns-clause-row
returns-clause-row c = row

pub returns-clause-flow : goal.returns-clause-flow
returns-clause-flow c = flow

pub returns-clause-definitions : goal.returns-clause-definitions
returns-clause-definitions c = definitions

pub returns-clause-format : goal.returns-clause-format
returns-clause-format c = second_format
