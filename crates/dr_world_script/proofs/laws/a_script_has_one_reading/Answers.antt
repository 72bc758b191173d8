use Rattle.dr_world_script.proofs.One.{line_one, script_one}
use Rattle.dr_world_script.proofs.laws.a_script_has_one_reading.Goals as goal

pub returns-clause-line : goal.returns-clause-line
returns-clause-line c = line_one

pub returns-clause-text : goal.returns-clause-text
returns-clause-text c = script_one
