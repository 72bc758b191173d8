use Rattle.dr_plan_sound.proofs.Ranks.{sound_has_rank}
use Rattle.dr_plan_sound.proofs.laws.sound_plans_have_ranks.Goals as goal

pub returns : goal.returns
returns c = sound_has_rank
