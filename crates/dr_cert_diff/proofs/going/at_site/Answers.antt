use Rattle.std.proofs.Common.{◌≡◌, sym, subst, List}
use Rattle.dr_base.specs.Texts.{Text}
use Rattle.dr_plan_model.specs.Networks.{Network}
use Rattle.dr_cert_diff.specs.Entering.{HasClasses}
use Rattle.dr_cert_diff.specs.Going.{Adds, AtClass, AtSite, Over}
use Rattle.dr_cert_diff.proofs.Adding.{adds_fewer}
use Rattle.dr_cert_diff.proofs.Finding.{enters_by_class}
use Rattle.dr_cert_diff.proofs.going.at_site.Goals as goal

pub returns : goal.returns
returns c =
    let old = c.args.both.now.old.now.plan in
    let new = c.args.both.now.new.now.plan in
    let site = c.args.site.now in
    let parts = c.args.parts.now in
    let classes = c.in_ok-classes.classes in
    let of_old : HasClasses old site classes = subst (λ (p : Network). HasClasses p site classes) c.plan.ensures.same c.in_ok-classes.ensures.0 in
    let of_new : HasClasses new site classes = subst (λ (p : Network). HasClasses p site classes) c.plan-2.ensures.same c.in_ok-classes.ensures.1 in
    let before = c.args.changes.now.items in
    let after = c.over_classes.new.changes.items in
    let adds : Adds old new (Over classes (AtClass old new site parts)) before after =
    subst (λ (xs : List Text). Adds old new (Over xs (AtClass old new site parts)) before after) c.as_slice.ensures c.in_ok-over_classes.ensures in
    adds_fewer old new (Over classes (AtClass old new site parts)) (AtSite old new site) before after (λ at key here. enters_by_class old new parts c.requires site classes of_old of_new at key here) adds
