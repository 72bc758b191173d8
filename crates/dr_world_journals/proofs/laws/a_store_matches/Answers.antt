use Rattle.dr_world_journals.proofs.Stored.{a_store_matches as lemma}
use Rattle.dr_world_journals.proofs.laws.a_store_matches.Goals as goal

pub returns : goal.returns
returns c = lemma
