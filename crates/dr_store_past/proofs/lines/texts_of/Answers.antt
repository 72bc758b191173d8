use Rattle.dr_store_past.proofs.Told.{all_fitting, all_texts, texts_pushed}
use Rattle.dr_store_past.proofs.lines.texts_of.Goals as goal

pub loop-line-preserved : goal.loop-line-preserved
loop-line-preserved c =
    let was = c.loop-line.invariant in
    texts_pushed c.args.after c.loop-line.line-index c.loop-line.last c.args.lines.now c.line-item.result
    c.loop-line.texts.items _ _ was.0 was.1 was.2 c.loop-line-test.true c.line-item.is
    c.in_ok-text.ensures.text c.in_ok-text.ensures.fits c.in_ok-push.ensures.items

pub returns-clause-texts : goal.returns-clause-texts
returns-clause-texts c =
    all_texts c.args.after c.loop-line.line-index c.args.lines.now c.loop-line.texts.items c.loop-line-test.false c.loop-line.invariant.1

pub returns-clause-fits : goal.returns-clause-fits
returns-clause-fits c =
    all_fitting c.loop-line.line-index c.args.lines.now c.loop-line-test.false c.loop-line.invariant.2
