-- Properties of each name that a plan uses.
use Rattle.std.proofs.Common.{◌↔◌, List, get_or, Contains}
use Rattle.std.specs.Prelude.{All}
use Rattle.std.specs.BTreeSet.{BTreeSet}
use Rattle.dr_base.specs.Texts.{Text}
use Rattle.dr_route.specs.Names.{HasName}
use Rattle.dr_route.specs.declared.rule.Pattern.{Pattern}
use Rattle.dr_route.specs.declared.rule.Pattern.TheVariants.{Any, Literal}
use Rattle.dr_route.specs.declared.rule.Rule.{Rule}
use Rattle.dr_route.specs.declared.accept.Callers.{Callers}
use Rattle.dr_route.specs.declared.accept.Callers.TheVariants as callers
use Rattle.dr_plan_model.specs.Formed.{HasForm}
use Rattle.dr_plan_text.specs.declared.words.AcceptText.{AcceptText}
use Rattle.dr_plan_text.specs.declared.words.NodeText.{NodeText}
use Rattle.dr_plan_text.specs.declared.words.FlowText.{FlowText}
use Rattle.dr_plan_text.specs.declared.words.PlanText.{PlanText}
use Rattle.dr_plan_core.specs.Reading.{EachCaller, EachNameOfNode, EachName, node_names, KnowsNames}

pub All-weaker : {X : Type 0} (P Q : X → Type 0) (xs : List X) → ((x : X) → P x → Q x) → All P xs → All Q xs
All-weaker P Q xs weaker all = λ k d h. weaker (get_or xs k d) (all k d h)

module _ (P Q : Text → Type 0) (weaker : (t : Text) → P t → Q t) where
  each_caller : (from : Callers) → EachCaller P from → EachCaller Q from
  each_caller callers.Any each = tt
  each_caller (callers.Listed names) each = All-weaker P Q names weaker each

  form : (pattern : Pattern) → HasForm P pattern → HasForm Q pattern
  form Any has = tt
  form (Literal name) has = weaker name has

  node : (n : NodeText) → EachNameOfNode P n → EachNameOfNode Q n
  node n each = record {
    name = weaker n.name each.name;
    accepts = All-weaker (λ (row : AcceptText). EachCaller P row.from) (λ (row : AcceptText). EachCaller Q row.from) n.accepts (λ row. each_caller row.from) each.accepts;
    rules = All-weaker (λ (rule : Rule). HasForm P rule.from × All P rule.to) (λ (rule : Rule). HasForm Q rule.from × All Q rule.to) n.rules
        (λ rule has. (form rule.from has.0, All-weaker P Q rule.to weaker has.1)) each.rules;
  }

  pub EachName-weaker : (plan : PlanText) → EachName P plan → EachName Q plan
  EachName-weaker plan each = record {
    nodes = All-weaker (EachNameOfNode P) (EachNameOfNode Q) plan.nodes node each.nodes;
    flows = All-weaker (λ (flow : FlowText). P flow.at × P flow.to) (λ (flow : FlowText). Q flow.at × Q flow.to) plan.flows (λ flow has. (weaker flow.at has.0, weaker flow.to has.1)) each.flows;
  }

-- the set has the names of the plan's nodes
abbrev pub IsNames : PlanText → BTreeSet Text → Type 0
IsNames plan set = (name : Text) → HasName set name ↔ Contains (node_names plan) name

pub knows : (plan : PlanText) (set : BTreeSet Text) → IsNames plan set → EachName (HasName set) plan → KnowsNames plan
knows plan set same each = EachName-weaker (HasName set) (Contains (node_names plan)) (λ t had. (same t).0 had) plan each

pub is_known : (plan : PlanText) (set : BTreeSet Text) → IsNames plan set → KnowsNames plan → EachName (HasName set) plan
is_known plan set same each = EachName-weaker (Contains (node_names plan)) (HasName set) (λ t has. (same t).1 has) plan each
