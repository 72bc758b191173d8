use Rattle.dr_word_line.proofs.running.read_stopping.Goals as goal

pub returns-in_default-clause-stop : goal.returns-in_default-clause-stop
returns-in_default-clause-stop c = λ given h. c.in_default.ensures.none given _ h
