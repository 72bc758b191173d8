use Rattle.dr_plan_sound.proofs.Hopping.{hop_pairs, over_hop, sound_by_lines}
use Rattle.dr_plan_sound.proofs.laws.ranked_lines_make_a_sound_plan.Goals as goal

pub returns-clause-pairs : goal.returns-clause-pairs
returns-clause-pairs c = λ plan formed lines all from to pairs. (hop_pairs plan formed lines all from to pairs, over_hop plan formed lines all from to pairs)

pub returns-clause-sound : goal.returns-clause-sound
returns-clause-sound c = sound_by_lines
