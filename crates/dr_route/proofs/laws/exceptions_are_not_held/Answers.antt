use Rattle.dr_route.proofs.Excepting.{excepted, others, none, figure}
use Rattle.dr_route.proofs.laws.exceptions_are_not_held.Goals as goal

pub returns-clause-excepted : goal.returns-clause-excepted
returns-clause-excepted c = excepted

pub returns-clause-others : goal.returns-clause-others
returns-clause-others c = others

pub returns-clause-none : goal.returns-clause-none
returns-clause-none c = none

pub returns-clause-figure : goal.returns-clause-figure
returns-clause-figure c = figure
