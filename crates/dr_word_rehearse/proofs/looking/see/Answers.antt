use Rattle.dr_word_rehearse.proofs.looking.see.Goals as goal

pub returns : goal.returns
returns g c = (c.unfit_rows-came.new.ledger, c.unfit_rows-came.ensures.site, λ st. (c.unfit_rows-came.ensures.stood st, c.unfit_rows-came.ensures.same st, c.unfit_rows-came.ensures.reply st))
