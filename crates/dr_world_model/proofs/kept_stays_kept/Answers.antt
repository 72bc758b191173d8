use Rattle.dr_world_model.proofs.kept_stays_kept.Goals as goal
use Rattle.dr_world_model.proofs.Lasting.{kept_stays_kept as lemma}

pub returns : goal.returns
returns c = lemma
