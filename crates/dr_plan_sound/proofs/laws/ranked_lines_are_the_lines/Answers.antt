use Rattle.dr_plan_sound.proofs.RankedLines.{lines_are_the_lines}
use Rattle.dr_plan_sound.proofs.laws.ranked_lines_are_the_lines.Goals as goal

pub returns : goal.returns
returns c = lines_are_the_lines
