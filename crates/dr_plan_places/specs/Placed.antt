-- Where in a plan, as it is written, one of its faults stands.
use Rattle.std.specs.Prelude.{◌≡◌, ◌≢◌, ℕ, List, ◌≤◌, ◌<◌, All, Contains, length, Some, slice_get}
use Rattle.dr_base.specs.Texts.{Text}
use Rattle.dr_route.specs.declared.rule.Rule.{Rule}
use Rattle.dr_plan_model.specs.Formed.{IsName}
use Rattle.dr_plan_text.specs.declared.words.AcceptText.{AcceptText}
use Rattle.dr_plan_text.specs.declared.words.NodeText.{NodeText}
use Rattle.dr_plan_text.specs.declared.words.FlowText.{FlowText}
use Rattle.dr_plan_text.specs.declared.words.PlanText.{PlanText}
use Rattle.dr_plan_core.specs.Reading.{HasMaxPdu, IsWithinLimits, node_names}
use Rattle.dr_base.specs.Syntaxes.{IsSyntax}
use Rattle.dr_plan_places.specs.Firsts.{IsFirstAt, IsFirstBad}
use Rattle.dr_plan_places.specs.Named.{IsNameAt}
use Rattle.dr_plan_places.specs.declared.syntaxes.SyntaxPlace.{SyntaxPlace}
use Rattle.dr_plan_places.specs.declared.syntaxes.SyntaxPlace.TheVariants as syntax
use Rattle.dr_plan_places.specs.declared.limits.LimitPlace.{LimitPlace}
use Rattle.dr_plan_places.specs.declared.limits.LimitPlace.TheVariants as limit
use Rattle.dr_plan_places.specs.declared.own.OwnPlace.{OwnPlace}
use Rattle.dr_plan_places.specs.declared.own.OwnPlace.TheVariants as own
use Rattle.dr_plan_places.specs.declared.place.Place.{Place}
use Rattle.dr_plan_places.specs.declared.place.Place.TheVariants as place
use Rattle.dr_plan_core.specs.declared.fault.PlanFault.{PlanFault}
use Rattle.dr_plan_core.specs.declared.fault.PlanFault.TheVariants as fault

-- the transfer syntaxes of the row are routed
abbrev pub KnowsRow : AcceptText → Type 0
KnowsRow row = All IsSyntax row.syntaxes

-- those of the node's accept rows are
abbrev pub KnowsNode : NodeText → Type 0
KnowsNode node = All (λ row. All IsSyntax row.syntaxes) node.accepts

-- those of the flow are
abbrev pub KnowsFlow : FlowText → Type 0
KnowsFlow flow = All IsSyntax flow.syntaxes

-- the row's first transfer syntax that isn't routed
abbrev pub IsRowSyntaxAt : AcceptText → ℕ → Type 0
IsRowSyntaxAt row index = IsFirstBad IsSyntax row.syntaxes index

-- the node's, by its accept row
abbrev pub IsNodeSyntaxAt : NodeText → ℕ × ℕ → Type 0
IsNodeSyntaxAt node at = IsFirstAt KnowsRow IsRowSyntaxAt node.accepts at.0 at.1

-- the flow's
abbrev pub IsFlowSyntaxAt : FlowText → ℕ → Type 0
IsFlowSyntaxAt flow index = IsFirstBad IsSyntax flow.syntaxes index

-- the plan's, nodes first
abbrev pub IsSyntaxAt : PlanText → SyntaxPlace → Type 0
IsSyntaxAt plan (syntax.Row node row index) =
    IsFirstAt KnowsNode IsNodeSyntaxAt plan.nodes node (row, index)
IsSyntaxAt plan (syntax.Flow flow index) =
    All KnowsNode plan.nodes × IsFirstAt KnowsFlow IsFlowSyntaxAt plan.flows flow index

-- two nodes have one name, the first of them at the lesser index
pub record AreTwins (nodes : List NodeText) (first second : ℕ) : Type 0 where
  pub early : NodeText
  pub late : NodeText
  pub one : slice_get nodes first ≡ Some early
  pub other : slice_get nodes second ≡ Some late
  pub before : first < second
  pub same : early.name ≡ late.name

-- the limit that the plan doesn't keep: how many nodes it has, then the `max_pdu` of its first node
-- that has one out of range, then how many rules and flows it has
abbrev pub IsLimitAt : PlanText → LimitPlace → Type 0
IsLimitAt plan limit.Nodes = length plan.nodes ≤ 64 → ⊥
IsLimitAt plan (limit.MaxPdu node) =
    IsFirstAt HasMaxPdu (λ n _. HasMaxPdu n → ⊥) plan.nodes node (tt {0})
IsLimitAt plan limit.Rules =
    (length plan.nodes ≤ 64) × All HasMaxPdu plan.nodes × (IsWithinLimits plan → ⊥)

-- no target of the rule is this node
abbrev pub LeavesRule : Text → Rule → Type 0
LeavesRule name rule = All (λ to. to ≢ name) rule.to

-- the rule's first target that is
abbrev pub IsOwnTarget : Text → Rule → ℕ → Type 0
IsOwnTarget name rule index = IsFirstBad (λ to. to ≢ name) rule.to index

-- no rule of the node goes to the node itself
abbrev pub LeavesNode : NodeText → Type 0
LeavesNode node = All (λ rule. All (λ to. to ≢ node.name) rule.to) node.rules

-- the node's first target that is the node itself, by its rule
abbrev pub IsOwnInNode : NodeText → ℕ × ℕ → Type 0
IsOwnInNode node at = IsFirstAt (LeavesRule node.name) (IsOwnTarget node.name) node.rules at.0 at.1

-- what goes to its own node: a rule, or a flow
abbrev pub IsOwnAt : PlanText → OwnPlace → Type 0
IsOwnAt plan (own.Rule node rule index) =
    IsFirstAt LeavesNode IsOwnInNode plan.nodes node (rule, index)
IsOwnAt plan (own.Flow flow) =
    All LeavesNode plan.nodes
    × IsFirstAt
    (λ (f : FlowText). f.at ≢ f.to)
    (λ (f : FlowText) _. f.at ≡ f.to) plan.flows flow (tt {0})

-- the place is one where a fault of the plan stands, and the first such one
abbrev pub IsPlaceIn : PlanText → Place → Type 0
IsPlaceIn plan (place.Syntax at) = IsSyntaxAt plan at
IsPlaceIn plan (place.Name at) = IsNameAt IsName plan at
IsPlaceIn plan (place.Twins first second) = AreTwins plan.nodes first second
IsPlaceIn plan (place.Limit at) = IsLimitAt plan at
IsPlaceIn plan (place.Unknown at) = IsNameAt (Contains (node_names plan)) plan at
IsPlaceIn plan (place.Own at) = IsOwnAt plan at

-- the fault that stands at the place
abbrev pub fault_at : Place → PlanFault
fault_at (place.Syntax at) = fault.Syntax
fault_at (place.Name at) = fault.Name
fault_at (place.Twins first second) = fault.Name
fault_at (place.Limit at) = fault.Limit
fault_at (place.Unknown at) = fault.UnknownNode
fault_at (place.Own at) = fault.SelfRoute
