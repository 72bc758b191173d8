-- A plan with a place of a fault doesn't pass.
use Rattle.std.proofs.Common.{◌≡◌, ◌≢◌, ℕ, ◌<◌, ◌≤◌, sym, ◌∙◌, ap, subst, List, [], ◌∷◌, map, length, get_or, take, Contains, codes, arith, lit<, lit≤}
use Rattle.std.specs.Prelude.{All, AllPairs}
use Rattle.std.proofs.lemmas.List.{get_or-map, length-map}
use Rattle.std.proofs.lemmas.Option.{slice_get_within, get_or_from_slice_get}
use Rattle.dr_base.specs.Texts.{Text}
use Rattle.dr_base.specs.Syntaxes.{IsSyntax}
use Rattle.dr_route.specs.declared.accept.Callers.{Callers}
use Rattle.dr_route.specs.declared.accept.Callers.TheVariants as callers
use Rattle.dr_route.specs.declared.rule.Rule.{Rule}
use Rattle.dr_plan_model.specs.Formed.{IsName}
use Rattle.dr_plan_text.specs.declared.words.AcceptText.{AcceptText}
use Rattle.dr_plan_text.specs.declared.words.NodeText.{NodeText}
use Rattle.dr_plan_text.specs.declared.words.FlowText.{FlowText}
use Rattle.dr_plan_text.specs.declared.words.PlanText.{PlanText}
use Rattle.dr_plan_core.specs.Reading.{EachCaller, EachNameOfNode, EachName, HasMaxPdu, KnowsSyntaxes, IsWithinLimits, SendsElsewhere, node_names}
use Rattle.dr_plan_places.specs.Excess.{IsOverAt}
use Rattle.dr_plan_places.specs.Firsts.{IsFirstAt, IsFirstBad}
use Rattle.dr_plan_places.specs.Named.{EachOfRow, EachOfRule, EachOfFlow, IsCallerAt, IsRowNameAt, IsRuleNameAt, IsNodeNameAt, IsFlowNameAt, IsNameAt}
use Rattle.dr_plan_places.specs.Placed.{KnowsRow, KnowsNode, KnowsFlow, IsRowSyntaxAt, IsNodeSyntaxAt, IsFlowSyntaxAt, IsSyntaxAt, AreTwins, IsLimitAt, LeavesRule, LeavesNode, IsOwnTarget, IsOwnInNode, IsOwnAt}
use Rattle.dr_plan_places.specs.Laws.{PlansWithPlacesFail, LaterTextIsNotFirst, SecondIsOver, ThirdIsNotFirstOver}
use Rattle.dr_plan_places.specs.declared.names.RuleName.{RuleName}
use Rattle.dr_plan_places.specs.declared.names.RuleName.TheVariants.{From, To}
use Rattle.dr_plan_places.specs.declared.names.NodeName.{NodeName}
use Rattle.dr_plan_places.specs.declared.names.NodeName.TheVariants.{Own, Caller, InRule}
use Rattle.dr_plan_places.specs.declared.names.FlowName.{FlowName}
use Rattle.dr_plan_places.specs.declared.names.FlowName.TheVariants as of_flow
use Rattle.dr_plan_places.specs.declared.names.NamePlace.{NamePlace}
use Rattle.dr_plan_places.specs.declared.names.NamePlace.TheVariants as named
use Rattle.dr_plan_places.specs.declared.syntaxes.SyntaxPlace.{SyntaxPlace}
use Rattle.dr_plan_places.specs.declared.syntaxes.SyntaxPlace.TheVariants as syntax
use Rattle.dr_plan_places.specs.declared.limits.LimitPlace.{LimitPlace}
use Rattle.dr_plan_places.specs.declared.limits.LimitPlace.TheVariants as limit
use Rattle.dr_plan_places.specs.declared.own.OwnPlace.{OwnPlace}
use Rattle.dr_plan_places.specs.declared.own.OwnPlace.TheVariants as own
use Rattle.dr_plan_places.specs.declared.place.Place.TheVariants as place

-- where each value is free of a fault, none has it
none_at : {X L : Type 0} (IsFree : X → Type 0) (IsAt : X → L → Type 0) (xs : List X) (index : ℕ) (at : L) → IsFirstAt IsFree IsAt xs index at → ((x : X) (l : L) → IsAt x l → IsFree x → ⊥) → All IsFree xs → ⊥
none_at IsFree IsAt xs index at h apart all =
    let here = get_or_from_slice_get xs index h.value h.value h.stands in
    apart h.value at h.at (subst IsFree here (all index h.value (slice_get_within xs index h.value h.stands)))

none_bad : (P : Text → Type 0) (texts : List Text) (index : ℕ) → IsFirstBad P texts index → All P texts → ⊥
none_bad P texts index h all =
    let here = get_or_from_slice_get texts index h.text h.text h.stands in
    h.bad (subst P here (all index h.text (slice_get_within texts index h.text h.stands)))

-- names
module _ (P : Text → Type 0) where
  of_callers : (from : Callers) (index : ℕ) → IsCallerAt P from index → EachCaller P from → ⊥
  of_callers callers.Any index h each = h
  of_callers (callers.Listed names) index h each = none_bad P names index h each

  of_rule : (rule : Rule) (name : RuleName) → IsRuleNameAt P rule name → EachOfRule P rule → ⊥
  of_rule rule From h each = h each.0
  of_rule rule (To index) h each = none_bad P rule.to index h.1 each.1

  of_node : (node : NodeText) (name : NodeName) → IsNodeNameAt P node name → EachNameOfNode P node → ⊥
  of_node node Own h each = h each.name
  of_node node (Caller row index) h each =
      none_at (EachOfRow P) (IsRowNameAt P) node.accepts row index h.1 (λ (r : AcceptText) i at free. of_callers r.from i at free) each.accepts
  of_node node (InRule rule name) h each = none_at (EachOfRule P) (IsRuleNameAt P) node.rules rule name h.2 of_rule each.rules

  in_flow : (flow : FlowText) (name : FlowName) → IsFlowNameAt P flow name → EachOfFlow P flow → ⊥
  in_flow flow of_flow.At h each = h each.0
  in_flow flow of_flow.To h each = h.1 each.1

  of_plan : (plan : PlanText) (at : NamePlace) → IsNameAt P plan at → EachName P plan → ⊥
  of_plan plan (named.Node node name) h each = none_at (EachNameOfNode P) (IsNodeNameAt P) plan.nodes node name h of_node each.nodes
  of_plan plan (named.Flow flow name) h each = none_at (EachOfFlow P) (IsFlowNameAt P) plan.flows flow name h.1 in_flow each.flows

-- transfer syntaxes
in_row : (row : AcceptText) (index : ℕ) → IsRowSyntaxAt row index → KnowsRow row → ⊥
in_row row index h knows = none_bad IsSyntax row.syntaxes index h knows

in_node : (node : NodeText) (at : ℕ × ℕ) → IsNodeSyntaxAt node at → KnowsNode node → ⊥
in_node node at h knows = none_at KnowsRow IsRowSyntaxAt node.accepts at.0 at.1 h in_row knows

in_plan : (plan : PlanText) (at : SyntaxPlace) → IsSyntaxAt plan at → KnowsSyntaxes plan → ⊥
in_plan plan (syntax.Row node row index) h knows = none_at KnowsNode IsNodeSyntaxAt plan.nodes node (row, index) h in_node knows.nodes
in_plan plan (syntax.Flow flow index) h knows =
    none_at KnowsFlow IsFlowSyntaxAt plan.flows flow index h.1 (λ (f : FlowText) i at free. none_bad IsSyntax f.syntaxes i at free) knows.flows

twins : (nodes : List NodeText) (first second : ℕ) → AreTwins nodes first second → AllPairs (λ a b. a ≢ b) (map (λ (node : NodeText). node.name) nodes) → ⊥
twins nodes first second h apart =
    let name : NodeText → Text = λ node. node.name in
    let early = slice_get_within nodes first h.early h.one in
    let late = slice_get_within nodes second h.late h.other in
    let inside : second < length (map name nodes) = rw (length-map nodes name) late in
    let one : get_or (map name nodes) first [] ≡ h.early.name = get_or-map name nodes first h.early [] early ∙ ap name (get_or_from_slice_get nodes first h.early h.early h.one) in
    let other : get_or (map name nodes) second [] ≡ h.late.name = get_or-map name nodes second h.late [] late ∙ ap name (get_or_from_slice_get nodes second h.late h.late h.other) in
    apart first second [] h.before inside (one ∙ (h.same ∙ sym other))

limits : (plan : PlanText) (at : LimitPlace) → IsLimitAt plan at → IsWithinLimits plan → ⊥
limits plan limit.Nodes h keeps = h keeps.few_nodes
limits plan (limit.MaxPdu node) h keeps = none_at HasMaxPdu (λ (n : NodeText) (_ : Unit {0}). HasMaxPdu n → ⊥) plan.nodes node tt h (λ n l bad good. bad good) keeps.max_pdu
limits plan limit.Rules h keeps = h.2 keeps

own_target : (name : Text) (rule : Rule) (index : ℕ) → IsOwnTarget name rule index → LeavesRule name rule → ⊥
own_target name rule index h leaves = none_bad (λ to. to ≢ name) rule.to index h leaves

own_rule : (node : NodeText) (at : ℕ × ℕ) → IsOwnInNode node at → LeavesNode node → ⊥
own_rule node at h leaves = none_at (LeavesRule node.name) (IsOwnTarget node.name) node.rules at.0 at.1 h (own_target node.name) leaves

owns : (plan : PlanText) (at : OwnPlace) → IsOwnAt plan at → SendsElsewhere plan → ⊥
owns plan (own.Rule node rule index) h sends = none_at LeavesNode IsOwnInNode plan.nodes node (rule, index) h own_rule sends.rules
owns plan (own.Flow flow) h sends =
    none_at (λ (f : FlowText). f.at ≢ f.to) (λ (f : FlowText) (_ : Unit {0}). f.at ≡ f.to) plan.flows flow tt h.1 (λ f l same apart. apart same) sends.flows

pub fails : PlansWithPlacesFail
fails plan (place.Syntax at) h passes = in_plan plan at h passes.0
fails plan (place.Name at) h passes = of_plan IsName plan at h passes.1.formed
fails plan (place.Twins first second) h passes = twins plan.nodes first second h passes.1.apart
fails plan (place.Limit at) h passes = limits plan at h passes.2
fails plan (place.Unknown at) h passes = of_plan (Contains (node_names plan)) plan at h passes.3
fails plan (place.Own at) h passes = owns plan at h passes.4

-- small lists
b_is_no_a : codes "b" ≡ codes "a" → ⊥
b_is_no_a e = (let d : ◌≡◌ {A = ℕ} 98 97 = ap (λ (t : Text). get_or t 0 0) e in omega arith)

pub later : LaterTextIsNotFirst
later h = b_is_no_a (h.before 1 [] (lit< tt))

pub second_over : SecondIsOver
second_over = record { inside = lit< tt; before = lit≤ tt; over = lit< tt }

pub third_over : ThirdIsNotFirstOver
third_over h = let before : 4 ≤ 3 = h.before in omega arith
