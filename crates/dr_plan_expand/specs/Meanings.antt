-- What a plan of format 3 stands for: a plan without names, sets, groups and lists.
use Rattle.std.specs.Prelude.{◌≡◌, List, [], ◌∷◌, map, flat_map}
use Rattle.dr_base.specs.Texts.{Text}
use Rattle.dr_route.specs.declared.rule.Pattern.{Pattern}
use Rattle.dr_route.specs.declared.rule.Pattern.TheVariants.{Any, Literal}
use Rattle.dr_route.specs.declared.rule.Rule.{Rule}
use Rattle.dr_route.specs.declared.accept.Callers.{Callers}
use Rattle.dr_route.specs.declared.accept.Callers.TheVariants as callers
use Rattle.dr_plan_model.specs.declared.plan.Format.TheVariants.{Three}
use Rattle.dr_plan_text.specs.declared.words.AcceptText.{AcceptText}
use Rattle.dr_plan_text.specs.declared.words.NodeText.{NodeText}
use Rattle.dr_plan_text.specs.declared.words.FlowText.{FlowText}
use Rattle.dr_plan_text.specs.declared.words.PlanText.{PlanText}
use Rattle.dr_plan_expand.specs.Lists.{Yields}
use Rattle.dr_plan_expand.specs.Standard.{class_tables, syntax_tables, usual_tables}
use Rattle.dr_plan_expand.specs.Words.{Known, OfSet, YieldsClasses, YieldsNodes, YieldsSyntax}
use Rattle.dr_plan_expand.specs.declared.short.AnyWords.{AnyWords}
use Rattle.dr_plan_expand.specs.declared.short.AnyWords.TheVariants as any
use Rattle.dr_plan_expand.specs.declared.short.Definition.{Definition}
use Rattle.dr_plan_expand.specs.declared.short.ShortRow.{ShortRow}
use Rattle.dr_plan_expand.specs.declared.short.ShortRule.{ShortRule}
use Rattle.dr_plan_expand.specs.declared.short.ShortNode.{ShortNode}
use Rattle.dr_plan_expand.specs.declared.short.ShortFlow.{ShortFlow}
use Rattle.dr_plan_expand.specs.declared.short.ShortPlan.{ShortPlan}

-- what words are looked up in: the standard's classes and transfer syntaxes, the sets that come
-- with the product, and the plan's sets and groups
pub record Lookups : Type 0 where
  pub classes : List (List Known)
  pub usual : List (List OfSet)
  pub syntaxes : List (List Known)
  pub sets : List Definition
  pub groups : List Definition

-- the callers of a row: any, or those that the words stand for
abbrev pub IsCallers : List Definition → Callers → Callers → Type 0
IsCallers groups callers.Any from = from ≡ callers.Any
IsCallers groups (callers.Listed words) from =
    (names : List Text) × Yields (YieldsNodes groups) words names × (from ≡ callers.Listed names)

-- an accept row of these callers and transfer syntaxes, of one class
abbrev pub row_of : Callers → List Text → Text → AcceptText
row_of from syntaxes class = record { from = from; class = class; syntaxes = syntaxes }

-- a row stands for one row for each of its classes, in order
pub record YieldsRows (l : Lookups) (row : ShortRow) (rows : List AcceptText) : Type 0 where
  pub from : Callers
  pub classes : List Text
  pub syntaxes : List Text
  pub each_caller : IsCallers l.groups row.from from
  pub each_class : Yields (YieldsClasses l.classes l.usual l.sets) row.classes classes
  pub each_syntax : Yields (YieldsSyntax l.syntaxes) row.syntaxes syntaxes
  pub are : rows ≡ map (row_of from syntaxes) classes

-- the patterns of a field of a rule: any, or one for each text that the words stand for
abbrev pub ArePatterns : (Text → List Text → Type 0) → AnyWords → List Pattern → Type 0
ArePatterns Of any.Any patterns = patterns ≡ Any ∷ []
ArePatterns Of (any.Listed words) patterns =
    (texts : List Text) × Yields Of words texts × (patterns ≡ map Literal texts)

-- a rule with these targets, for one caller and one class
abbrev pub rule_of : ShortRule → List Text → Pattern → Pattern → Rule
rule_of rule to from class = record {
  from = from;
  class = class;
  modality = rule.modality;
  station = rule.station;
  except = rule.except;
  to = to;
  keep = rule.keep;
}

-- a rule stands for one rule for each of its callers and each of its classes, in order
pub record YieldsRules (l : Lookups) (rule : ShortRule) (rules : List Rule) : Type 0 where
  pub froms : List Pattern
  pub classes : List Pattern
  pub to : List Text
  pub each_caller : ArePatterns (YieldsNodes l.groups) rule.from froms
  pub each_class : ArePatterns (YieldsClasses l.classes l.usual l.sets) rule.classes classes
  pub each_target : Yields (YieldsNodes l.groups) rule.to to
  pub are : rules ≡ flat_map (λ from. map (rule_of rule to from) classes) froms

-- a node with these rows and rules
abbrev pub node_of : ShortNode → List AcceptText → List Rule → NodeText
node_of node accepts rules = record {
  name = node.name;
  listens = node.listens;
  max_pdu = node.max_pdu;
  accepts = accepts;
  rules = rules;
}

-- a node stands for itself, with the rows and the rules that its own stand for
pub record YieldsNode (l : Lookups) (node : ShortNode) (nodes : List NodeText) : Type 0 where
  pub accepts : List AcceptText
  pub rules : List Rule
  pub each_row : Yields (YieldsRows l) node.accepts accepts
  pub each_rule : Yields (YieldsRules l) node.rules rules
  pub are : nodes ≡ node_of node accepts rules ∷ []

-- a flow with these classes and transfer syntaxes, from one node to another
abbrev pub flow_of : ShortFlow → List Text → List Text → Text → Text → FlowText
flow_of flow classes syntaxes at to = record {
  at = at;
  to = to;
  classes = classes;
  syntaxes = syntaxes;
  modalities = flow.modalities;
  stations = flow.stations;
}

-- a flow stands for one flow for each node where it enters and each to which it goes, in order
pub record YieldsFlows (l : Lookups) (flow : ShortFlow) (flows : List FlowText) : Type 0 where
  pub ats : List Text
  pub tos : List Text
  pub classes : List Text
  pub syntaxes : List Text
  pub each_at : Yields (YieldsNodes l.groups) flow.at ats
  pub each_to : Yields (YieldsNodes l.groups) flow.to tos
  pub each_class : Yields (YieldsClasses l.classes l.usual l.sets) flow.classes classes
  pub each_syntax : Yields (YieldsSyntax l.syntaxes) flow.syntaxes syntaxes
  pub are : flows ≡ flat_map (λ at. map (flow_of flow classes syntaxes at) tos) ats

-- what the words of a plan are looked up in
abbrev pub lookups_of : ShortPlan → Lookups
lookups_of short = record {
  classes = class_tables;
  usual = usual_tables;
  syntaxes = syntax_tables;
  sets = short.sets;
  groups = short.groups;
}

-- the plan of format 3 means this plan: what its nodes and its flows stand for
pub record Means (short : ShortPlan) (plan : PlanText) : Type 0 where
  pub format : plan.format ≡ Three
  pub nodes : Yields (YieldsNode (lookups_of short)) short.nodes plan.nodes
  pub flows : Yields (YieldsFlows (lookups_of short)) short.flows plan.flows
