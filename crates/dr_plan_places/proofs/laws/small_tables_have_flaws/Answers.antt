use Rattle.dr_plan_places.proofs.Small.{colour_is_unknown, format_is_not_missing, fourth_format_is_ill_formed, prefix_is_ill_formed_in_format_1, prefix_is_of_format_2, exception_is_ill_formed_in_format_2, exception_is_of_format_3}
use Rattle.dr_plan_places.proofs.laws.small_tables_have_flaws.Goals as goal

pub returns-clause-colour : goal.returns-clause-colour
returns-clause-colour c = colour_is_unknown

pub returns-clause-none : goal.returns-clause-none
returns-clause-none c = format_is_not_missing

pub returns-clause-format : goal.returns-clause-format
returns-clause-format c = fourth_format_is_ill_formed

pub returns-clause-prefix : goal.returns-clause-prefix
returns-clause-prefix c = prefix_is_ill_formed_in_format_1

pub returns-clause-prefix_of_2 : goal.returns-clause-prefix_of_2
returns-clause-prefix_of_2 c = prefix_is_of_format_2

pub returns-clause-except : goal.returns-clause-except
returns-clause-except c = exception_is_ill_formed_in_format_2

pub returns-clause-except_of_3 : goal.returns-clause-except_of_3
returns-clause-except_of_3 c = exception_is_of_format_3
