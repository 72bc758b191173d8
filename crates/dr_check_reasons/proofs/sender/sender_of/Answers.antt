use Rattle.std.proofs.Common.{subst, refl, List}
use Rattle.std.proofs.lemmas.Bool.{false≢true}
use Rattle.std.specs.Prelude.{All}
use Rattle.dr_route.specs.declared.rule.Rule.{Rule}
use Rattle.dr_plan_model.specs.declared.plan.Flow.{Flow}
use Rattle.dr_plan_places.specs.Firsts.{IsFirstAt}
use Rattle.dr_check_reasons.specs.Reasons.{BringsTo, SendsTo}
use Rattle.dr_check_reasons.proofs.Sending.{not_by_flows, not_by_rules, not_by_strangers}
use Rattle.dr_check_reasons.proofs.sender.sender_of.Goals as goal

pub returns-in-None : goal.returns-in-None
returns-in-None c =
    not_by_flows c.args.plan.now c.args.name.now c.args.caller.now c.args.key.now c.args.to.now (c.if-is_local.ensures.0 refl)
    (subst (λ (flows : List Flow). All (λ flow. BringsTo c.args.name.now c.args.key.now c.args.to.now flow → ⊥) flows) c.flows.ensures.same c.in-None.ensures)

pub returns-in_default : goal.returns-in_default
returns-in_default c =
    not_by_strangers c.args.plan.now c.args.name.now c.args.caller.now c.args.key.now c.args.to.now (λ h. false≢true (c.if-is_local.ensures.1 h)) c.in_default.ensures

pub returns-in-None-first : goal.returns-in-None-first
returns-in-None-first c =
    not_by_rules c.args.plan.now c.args.name.now c.args.caller.now c.args.key.now c.args.to.now c.in-Some-node.node.now (λ h. false≢true (c.if-is_local.ensures.1 h)) c.in-Some-node.ensures
    (subst (λ (rules : List Rule). All (λ rule. SendsTo c.args.caller.now c.args.key.now c.args.to.now rule → ⊥) rules) c.as_slice.ensures c.in-None-first.ensures)

pub returns-in-Some-first : goal.returns-in-Some-first
returns-in-Some-first c =
    let P : List Rule → Type 0 = λ rules. IsFirstAt (λ (rule : Rule). SendsTo c.args.caller.now c.args.key.now c.args.to.now rule → ⊥)
    (λ (rule : Rule) (place : Unit {0}). SendsTo c.args.caller.now c.args.key.now c.args.to.now rule) rules c.in-Some-first.index (tt {0}) in
    (λ h. false≢true (c.if-is_local.ensures.1 h), (c.in-Some-node.node.now, c.in-Some-node.ensures, subst P c.as_slice.ensures c.in-Some-first.ensures))
