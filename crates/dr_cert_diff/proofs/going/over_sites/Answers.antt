use Rattle.dr_cert_diff.specs.Going.{AtSite}
use Rattle.dr_cert_diff.proofs.Adding.{adds_more}
use Rattle.dr_cert_diff.proofs.going.over_sites.Goals as goal

pub loop-site-preserved : goal.loop-site-preserved
loop-site-preserved c =
    let old = c.args.both.now.old.now.plan in
    let new = c.args.both.now.new.now.plan in
    adds_more old new (AtSite old new) c.args.sites.now c.loop-site.site-index c.site-item.result c.args.changes.now.items c.loop-site.changes.items c.at_site.new.changes.items
    c.loop-site-test.true c.site-item.is c.loop-site.invariant c.in_ok-at_site.ensures
