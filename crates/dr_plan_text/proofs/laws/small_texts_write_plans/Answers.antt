use Rattle.dr_plan_text.proofs.SmallTexts.{empty_text, one_node}
use Rattle.dr_plan_text.proofs.laws.small_texts_write_plans.Goals as goal

pub returns-clause-nothing : goal.returns-clause-nothing
returns-clause-nothing c = empty_text

pub returns-clause-node : goal.returns-clause-node
returns-clause-node c = one_node
