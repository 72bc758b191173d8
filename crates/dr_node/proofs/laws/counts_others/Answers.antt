use Rattle.dr_node.proofs.Counting.{counts_others_alone, new_links}
use Rattle.dr_node.proofs.laws.counts_others.Goals as goal

pub returns-clause-alone : goal.returns-clause-alone
returns-clause-alone c = counts_others_alone

pub returns-clause-new : goal.returns-clause-new
returns-clause-new c = new_links
