use Rattle.dr_word_rehearse.proofs.Printed.{printed_fits, printed_unfit}
use Rattle.dr_word_rehearse.proofs.telling.whole_text.Goals as goal

pub returns-then-fits : goal.returns-then-fits
returns-then-fits c = printed_fits c.args.all.now c.args.fits c.in_ok-out.out.items c.extend_from_slice.new.self.items c.if-fits.true c.requires c.in_ok-out.ensures c.in_ok-extend_from_slice.ensures.items

pub returns : goal.returns
returns c = printed_unfit c.args.all.now c.args.fits c.in_ok-out.out.items c.if-fits.false c.requires c.in_ok-out.ensures
