use Rattle.dr_word_check.proofs.laws.first_certificates_are_its.Goals as goal

pub returns : goal.returns
returns c = λ text output it. record { plan = it.plan; reads = c.cores_are_read.ensures text it.plan it.reads it.format; has = it.has }
