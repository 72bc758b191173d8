-- Where in a plan, as it is written, stands the first name that hasn't a property. A node's own
-- name is looked at first, then the callers of its accept rows, then its rules; all nodes before
-- the flows.
use Rattle.std.specs.Prelude.{ℕ, All}
use Rattle.dr_base.specs.Texts.{Text}
use Rattle.dr_route.specs.declared.rule.Rule.{Rule}
use Rattle.dr_route.specs.declared.accept.Callers.{Callers}
use Rattle.dr_route.specs.declared.accept.Callers.TheVariants as callers
use Rattle.dr_plan_model.specs.Formed.{HasForm}
use Rattle.dr_plan_text.specs.declared.words.AcceptText.{AcceptText}
use Rattle.dr_plan_text.specs.declared.words.NodeText.{NodeText}
use Rattle.dr_plan_text.specs.declared.words.FlowText.{FlowText}
use Rattle.dr_plan_text.specs.declared.words.PlanText.{PlanText}
use Rattle.dr_plan_core.specs.Reading.{EachCaller, EachNameOfNode}
use Rattle.dr_plan_places.specs.Firsts.{IsFirstAt, IsFirstBad}
use Rattle.dr_plan_places.specs.declared.names.RuleName.{RuleName}
use Rattle.dr_plan_places.specs.declared.names.RuleName.TheVariants.{From, To}
use Rattle.dr_plan_places.specs.declared.names.NodeName.{NodeName}
use Rattle.dr_plan_places.specs.declared.names.NodeName.TheVariants.{Own, Caller, InRule}
use Rattle.dr_plan_places.specs.declared.names.FlowName.{FlowName}
use Rattle.dr_plan_places.specs.declared.names.FlowName.TheVariants as of_flow
use Rattle.dr_plan_places.specs.declared.names.NamePlace.{NamePlace}
use Rattle.dr_plan_places.specs.declared.names.NamePlace.TheVariants as place

-- the callers' first name without the property stands at this index
abbrev pub IsCallerAt : (Text → Type 0) → Callers → ℕ → Type 0
IsCallerAt P callers.Any index = ⊥
IsCallerAt P (callers.Listed names) index = IsFirstBad P names index

-- each name among the row's callers has the property
abbrev pub EachOfRow : (Text → Type 0) → AcceptText → Type 0
EachOfRow P row = EachCaller P row.from

-- the row's first caller without the property
abbrev pub IsRowNameAt : (Text → Type 0) → AcceptText → ℕ → Type 0
IsRowNameAt P row index = IsCallerAt P row.from index

-- each name of the rule has the property
abbrev pub EachOfRule : (Text → Type 0) → Rule → Type 0
EachOfRule P rule = HasForm P rule.from × All P rule.to

-- the rule's first name without the property
abbrev pub IsRuleNameAt : (Text → Type 0) → Rule → RuleName → Type 0
IsRuleNameAt P rule From = HasForm P rule.from → ⊥
IsRuleNameAt P rule (To index) = HasForm P rule.from × IsFirstBad P rule.to index

-- the node's first name without the property
abbrev pub IsNodeNameAt : (Text → Type 0) → NodeText → NodeName → Type 0
IsNodeNameAt P node Own = P node.name → ⊥
IsNodeNameAt P node (Caller row index) =
    P node.name × IsFirstAt (EachOfRow P) (IsRowNameAt P) node.accepts row index
IsNodeNameAt P node (InRule rule name) =
    P node.name
    × All (EachOfRow P) node.accepts
    × IsFirstAt (EachOfRule P) (IsRuleNameAt P) node.rules rule name

-- each name of the flow has the property
abbrev pub EachOfFlow : (Text → Type 0) → FlowText → Type 0
EachOfFlow P flow = P flow.at × P flow.to

-- the flow's first name without the property
abbrev pub IsFlowNameAt : (Text → Type 0) → FlowText → FlowName → Type 0
IsFlowNameAt P flow of_flow.At = P flow.at → ⊥
IsFlowNameAt P flow of_flow.To = P flow.at × (P flow.to → ⊥)

-- the plan's first name without the property
abbrev pub IsNameAt : (Text → Type 0) → PlanText → NamePlace → Type 0
IsNameAt P plan (place.Node node name) =
    IsFirstAt (EachNameOfNode P) (IsNodeNameAt P) plan.nodes node name
IsNameAt P plan (place.Flow flow name) =
    All (EachNameOfNode P) plan.nodes
    × IsFirstAt (EachOfFlow P) (IsFlowNameAt P) plan.flows flow name
