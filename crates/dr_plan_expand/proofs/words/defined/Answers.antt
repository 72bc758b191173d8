use Rattle.dr_plan_expand.proofs.words.defined.Goals as goal

pub returns-in-Some : goal.returns-in-Some
returns-in-Some c = (c.in-Some.definition.now, c.in-Some.ensures, c.as_slice.ensures)

pub returns-in-None : goal.returns-in-None
returns-in-None c = λ words h. c.in-None.ensures h.0 h.1
