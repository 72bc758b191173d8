use Rattle.std.proofs.Common.{refl, arith}
use Rattle.dr_plan_expand.proofs.SmallPlan.{many_words}
use Rattle.dr_plan_expand.proofs.laws.small_lists_are_counted.Goals as goal

pub returns-clause-group : goal.returns-clause-group
returns-clause-group c = refl

pub returns-clause-stranger : goal.returns-clause-stranger
returns-clause-stranger c = refl

pub returns-clause-word : goal.returns-clause-word
returns-clause-word c = omega arith

pub returns-clause-list : goal.returns-clause-list
returns-clause-list c = (refl, omega arith)

pub returns-clause-words : goal.returns-clause-words
returns-clause-words c = many_words

pub returns-clause-empty : goal.returns-clause-empty
returns-clause-empty c = refl
