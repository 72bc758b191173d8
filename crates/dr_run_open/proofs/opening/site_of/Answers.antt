use Rattle.std.proofs.Common.{◌∙◌, subst, Err}
use Rattle.dr_base.specs.Texts.{Text}
use Rattle.dr_plan_model.specs.Plans.{NamesNoNode}
use Rattle.dr_site.specs.Sites.{IsSiteOf}
use Rattle.dr_site.specs.declared.site.SiteFault.{SiteFault}
use Rattle.dr_run_open.proofs.opening.site_of.Goals as goal

pub returns-in-Err-NoNode : goal.returns-in-Err-NoNode
returns-in-Err-NoNode c =
    let P : Text → Type 0 = λ name. NamesNoNode c.args.sealed.now.plan name in
    let Q : SiteFault → Type 0 = λ fault. IsSiteOf c.args.sealed.now.plan c.args.sealed.now.certificate c.in_ok-name.name (Err fault) in
    subst P (c.in_ok-name.ensures ∙ c.as_bytes.ensures.value) (subst Q c.in-Err-NoNode.field-0-is c.in-Err-NoNode.ensures)
