use Rattle.dr_word_line.proofs.ledgers.read_serving.Goals as goal

pub returns-in_default-clause-serve : goal.returns-in_default-clause-serve
returns-in_default-clause-serve c = λ given h. c.in_default.ensures.none given _ h
