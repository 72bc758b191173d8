use Rattle.dr_word_check.proofs.Cored.{itself, wanting}
use Rattle.dr_word_check.proofs.expand.copied.Goals as goal

pub returns-in-Ok : goal.returns-in-Ok
returns-in-Ok c = itself c.args.text.now c.in-Ok.copy c.requires c.in-Ok.ensures

pub returns-in-Err : goal.returns-in-Err
returns-in-Err c = wanting c.args.text.now
