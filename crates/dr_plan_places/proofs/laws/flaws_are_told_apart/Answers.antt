use Rattle.dr_plan_places.proofs.Small.{fourth_is_given, fourth_is_a_flaw, at_is_missing, at_is_not_ill_formed, no_colour_is_unknown, address_of_a_caller, second_node}
use Rattle.dr_plan_places.proofs.laws.flaws_are_told_apart.Goals as goal

pub returns-clause-given : goal.returns-clause-given
returns-clause-given c = fourth_is_given

pub returns-clause-format : goal.returns-clause-format
returns-clause-format c = fourth_is_a_flaw

pub returns-clause-missing : goal.returns-clause-missing
returns-clause-missing c = at_is_missing

pub returns-clause-empty : goal.returns-clause-empty
returns-clause-empty c = at_is_not_ill_formed

pub returns-clause-none : goal.returns-clause-none
returns-clause-none c = no_colour_is_unknown

pub returns-clause-calls : goal.returns-clause-calls
returns-clause-calls c = address_of_a_caller

pub returns-clause-second : goal.returns-clause-second
returns-clause-second c = second_node
