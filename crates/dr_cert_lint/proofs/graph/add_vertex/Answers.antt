use Rattle.std.proofs.Common.{◌≡◌, ◌∙◌, ◌↔◌, refl, sym, ap, subst, List, IsTrue}
use Rattle.std.specs.Prelude.{All}
use Rattle.dr_route.specs.Laws.{IsKnownRule}
use Rattle.dr_route.specs.Routes.{KeepsBy}
use Rattle.dr_route.specs.declared.rule.Rule.{Rule}
use Rattle.dr_route.specs.declared.key.Key.{Key}
use Rattle.dr_base.specs.Texts.{Text}
use Rattle.dr_plan_model.specs.Networks.{Network}
use Rattle.dr_plan_model.specs.Plans.{literals_of}
use Rattle.dr_plan_model.specs.Walks.{IsReached}
use Rattle.dr_plan_model.specs.declared.plan.Flow.{Flow}
use Rattle.dr_plan_model.proofs.WalksAlike.{known_rules}
use Rattle.dr_cert_lint.specs.Bringing.{EntersAt}
use Rattle.dr_cert_lint.specs.Graphs.{KeepsSome, vertex_row}
use Rattle.dr_cert_lint.proofs.graph.add_vertex.Goals as goal

pub is_used-requires : goal.is_used-requires
is_used-requires c =
    let K : List Rule → Type 0 = λ rules. All (IsKnownRule (literals_of c.args.sealed.now.plan)) rules in
    subst K (sym c.as_slice.ensures) (known_rules c.args.sealed.now.plan c.args.node.now c.requires)

pub returns : goal.returns
returns c =
    let plan = c.args.sealed.now.plan in
    let node = c.args.node.now in
    let flows : c.flows.result.now ≡ plan.flows = c.flows.ensures.same ∙ ap (λ (p : Network). p.flows) c.plan.ensures.same in
    let enters : IsTrue c.is_entry-enters.result ↔ EntersAt plan.flows node.name = subst (λ (fs : List Flow). IsTrue c.is_entry-enters.result ↔ EntersAt fs node.name) flows c.is_entry-enters.ensures in
    let keeps : IsTrue c.in_ok-keeps.keeps ↔ KeepsSome plan node =
    subst (λ (rules : List Rule). IsTrue c.in_ok-keeps.keeps ↔ ((key : Key) × (caller : Text) × IsReached plan key caller node.name × KeepsBy rules caller key)) c.as_slice.ensures c.in_ok-keeps.ensures in
    (vertex_row node c.is_entry-enters.result c.in_ok-keeps.keeps, (c.is_entry-enters.result, c.in_ok-keeps.keeps, enters, keeps, refl), c.in_ok-add_vertex_row.ensures)
