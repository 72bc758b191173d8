use Rattle.dr_word_check.proofs.Cored.{its_core}
use Rattle.dr_word_check.proofs.expand.find_found.Goals as goal

pub returns-in-Some : goal.returns-in-Some
returns-in-Some c = its_core c.args.text.now c.in-Some.core (rw c.in-Some.is at c.requires)

pub find_itself-requires : goal.find_itself-requires
find_itself-requires c = rw c.in-None.is at c.requires
