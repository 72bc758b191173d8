use Rattle.dr_word_check.proofs.laws.one_certificate_of_a_text.Goals as goal

pub returns : goal.returns
returns c = λ a b output one other. c.one_certificate_is_printed.ensures one.plan other.plan output one.has other.has
