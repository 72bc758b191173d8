use Rattle.dr_plan_model.proofs.WalksAlike.{format_1_has_none, format_1_keeps}
use Rattle.dr_plan_model.proofs.laws.format_1_has_no_prefix.Goals as goal

pub returns-clause-none : goal.returns-clause-none
returns-clause-none c = format_1_has_none

pub returns-clause-cells : goal.returns-clause-cells
returns-clause-cells c = format_1_keeps
