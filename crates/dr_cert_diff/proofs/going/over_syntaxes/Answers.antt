use Rattle.dr_base.specs.declared.syntax.Syntax.TheVariants.{Implicit, Explicit}
use Rattle.dr_cert_diff.specs.Going.{AtPair}
use Rattle.dr_cert_diff.proofs.Adding.{adds_both}
use Rattle.dr_cert_diff.proofs.going.over_syntaxes.Goals as goal

pub returns : goal.returns
returns c =
    let old = c.args.both.now.old.now.plan in
    let new = c.args.both.now.new.now.plan in
    let site = c.args.site.now in
    let class = c.args.class.now in
    let parts = c.args.parts.now in
    adds_both old new (AtPair old new site class Implicit parts) (AtPair old new site class Explicit parts) c.args.changes.now.items c.over_modalities.new.changes.items c.over_modalities-2.new.changes.items
    c.in_ok-over_modalities.ensures c.in_ok-over_modalities-2.ensures
