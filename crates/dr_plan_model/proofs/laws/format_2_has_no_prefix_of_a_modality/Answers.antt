use Rattle.dr_plan_model.proofs.WalksAlike.{format_2_has_none, format_2_keeps}
use Rattle.dr_plan_model.proofs.laws.format_2_has_no_prefix_of_a_modality.Goals as goal

pub returns-clause-none : goal.returns-clause-none
returns-clause-none c = format_2_has_none

pub returns-clause-parts : goal.returns-clause-parts
returns-clause-parts c = format_2_keeps
