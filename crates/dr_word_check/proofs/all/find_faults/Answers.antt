use Rattle.dr_word_check.proofs.all.find_faults.Goals as goal

pub returns-in-Ok : goal.returns-in-Ok
returns-in-Ok c = c.with_faults.ensures c.args.text.now c.in-Ok.ensures
