use Rattle.dr_store_data.proofs.HeadLemmas.{one_head}
use Rattle.dr_store_data.proofs.laws.heads_are_one.Goals as goal

pub returns : goal.returns
returns c mark other seen long wide one two = one_head mark other seen long wide one two
