use Rattle.dr_plan_text.proofs.ExceptTexts.{excepted, excepted_of_2, prefix_excepted, none_excepted}
use Rattle.dr_plan_text.proofs.laws.rules_have_exceptions_in_format_3.Goals as goal

pub returns-clause-some : goal.returns-clause-some
returns-clause-some c = excepted

pub returns-clause-some_of_2 : goal.returns-clause-some_of_2
returns-clause-some_of_2 c = excepted_of_2

pub returns-clause-prefix : goal.returns-clause-prefix
returns-clause-prefix c = prefix_excepted

pub returns-clause-none : goal.returns-clause-none
returns-clause-none c = none_excepted
