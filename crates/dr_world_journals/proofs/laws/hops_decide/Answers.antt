use Rattle.dr_world_journals.proofs.Hopping.{hops_decide as lemma}
use Rattle.dr_world_journals.proofs.laws.hops_decide.Goals as goal

pub returns : goal.returns
returns c = lemma
