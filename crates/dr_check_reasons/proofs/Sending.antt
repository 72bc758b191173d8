-- Where no flow and no rule sends a key on, the node doesn't.
use Rattle.std.proofs.Common.{◌≡◌, suc, inl, inr, refl, sym, subst, List, [], ◌∷◌, arith}
use Rattle.std.specs.Prelude.{All}
use Rattle.dr_base.specs.Texts.{Text}
use Rattle.dr_route.specs.Routes.{local, SendsBy}
use Rattle.dr_route.specs.declared.key.Key.{Key}
use Rattle.dr_route.specs.declared.rule.Rule.{Rule}
use Rattle.dr_plan_model.specs.Networks.{Network}
use Rattle.dr_plan_model.specs.Plans.{IsTheNode, NamesNoNode}
use Rattle.dr_plan_model.specs.Walks.{Sends}
use Rattle.dr_plan_model.specs.declared.plan.Flow.{Flow}
use Rattle.dr_plan_model.specs.declared.plan.Node.{Node}
use Rattle.dr_check_reasons.specs.Reasons.{BringsTo, SendsTo}

all_tail : {X : Type 0} (P : X → Type 0) (x : X) (xs : List X) → All P (x ∷ xs) → All P xs
all_tail P x xs all = λ k d h. all (suc k) d (omega arith)

no_rule : (rules : List Rule) (caller : Text) (key : Key) (to : Text) → All (λ rule. SendsTo caller key to rule → ⊥) rules → SendsBy rules caller key to → ⊥
no_rule [] caller key to none sends = sends
no_rule (rule ∷ rules) caller key to none sends = elim sends [
  | inl here ↦ none 0 rule (omega arith) here
  | inr later ↦ no_rule rules caller key to (all_tail (λ (r : Rule). SendsTo caller key to r → ⊥) rule rules none) later
]

-- no rule of an entering caller holds
local_by_rules : (rules : List Rule) (key : Key) (to : Text) → SendsBy rules local key to → ⊥
local_by_rules [] key to sends = sends
local_by_rules (rule ∷ rules) key to sends = elim sends [ inl here ↦ here.0.0 refl | inr later ↦ local_by_rules rules key to later ]

pub not_by_flows : (plan : Network) (name caller : Text) (key : Key) (to : Text) → caller ≡ local → All (λ flow. BringsTo name key to flow → ⊥) plan.flows → Sends plan name caller key to → ⊥
not_by_flows plan name caller key to is none sends = elim sends [
  | inl entered ↦ (let flows = entered.1 in let among = flows.1 in
      none among.0 flows.0 among.1 (subst (λ (flow : Flow). BringsTo name key to flow) (sym among.2) (flows.2, flows.3, flows.4)))
  | inr ruled ↦ local_by_rules ruled.0.rules key to (subst (λ (c : Text). SendsBy ruled.0.rules c key to) is ruled.2)
]

pub not_by_rules : (plan : Network) (name caller : Text) (key : Key) (to : Text) (node : Node) → (caller ≡ local → ⊥) → IsTheNode plan name node →
    All (λ rule. SendsTo caller key to rule → ⊥) node.rules → Sends plan name caller key to → ⊥
not_by_rules plan name caller key to node isnt the none sends = elim sends [
  | inl entered ↦ isnt entered.0
  | inr ruled ↦ no_rule node.rules caller key to none (subst (λ (n : Node). SendsBy n.rules caller key to) (the.1 ruled.0 ruled.1) ruled.2)
]

pub not_by_strangers : (plan : Network) (name caller : Text) (key : Key) (to : Text) → (caller ≡ local → ⊥) → NamesNoNode plan name → Sends plan name caller key to → ⊥
not_by_strangers plan name caller key to isnt none sends = elim sends [ inl entered ↦ isnt entered.0 | inr ruled ↦ none ruled.0 ruled.1 ]
