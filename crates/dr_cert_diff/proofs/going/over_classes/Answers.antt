use Rattle.dr_cert_diff.specs.Going.{AtClass}
use Rattle.dr_cert_diff.proofs.Adding.{adds_more}
use Rattle.dr_cert_diff.proofs.going.over_classes.Goals as goal

pub loop-class-preserved : goal.loop-class-preserved
loop-class-preserved c =
    let old = c.args.both.now.old.now.plan in
    let new = c.args.both.now.new.now.plan in
    adds_more old new (AtClass old new c.args.site.now c.args.parts.now) c.args.classes.now c.loop-class.class-index c.class-item.result c.args.changes.now.items c.loop-class.changes.items c.over_syntaxes.new.changes.items
    c.loop-class-test.true c.class-item.is c.loop-class.invariant c.in_ok-over_syntaxes.ensures
