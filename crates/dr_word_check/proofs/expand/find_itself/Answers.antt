use Rattle.dr_word_check.proofs.Cored.{no_plan}
use Rattle.dr_word_check.proofs.expand.find_itself.Goals as goal

pub returns-in-Err : goal.returns-in-Err
returns-in-Err c = no_plan c.args.text.now c.in-Err.answer c.requires c.in-Err.ensures
