use Rattle.std.proofs.Common.{◌≡◌, ◌∙◌, subst}
use Rattle.dr_base.specs.Texts.{Text}
use Rattle.dr_plan_model.specs.Plans.{IsTheNode, NamesNoNode}
use Rattle.dr_word_route.proofs.keys.site_of.Goals as goal

pub returns-in_default-known_node : goal.returns-in_default-known_node
returns-in_default-known_node c =
    let same : c.in-Ok.site ≡ c.args.at.now = c.in-Ok.ensures ∙ c.as_bytes.ensures.value in
    subst (λ (name : Text). NamesNoNode c.args.plan.now name) same c.in_default-known_node.ensures

pub returns : goal.returns
returns c =
    let same : c.in-Ok.site ≡ c.args.at.now = c.in-Ok.ensures ∙ c.as_bytes.ensures.value in
    (same, c.in-Some._known.now, subst (λ (name : Text). IsTheNode c.args.plan.now name c.in-Some._known.now) same c.in-Some.ensures)
