use Rattle.dr_check.proofs.Unsound.{no_sound_plan}
use Rattle.dr_check.proofs.laws.shown_faults_are_unsound.Goals as goal

pub returns : goal.returns
returns c = no_sound_plan
