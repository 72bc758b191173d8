use Rattle.dr_word_check.proofs.answer.answer_to.Goals as goal

pub returns-in-Ok : goal.returns-in-Ok
returns-in-Ok c = c.answer_to_plan.ensures c.args.text.now c.in-Ok.ensures
