-- What the tables of a plan's text say, and what the text says as a whole.
use Rattle.std.specs.Prelude.{◌≡◌, ◌≢◌, pos, false, List, [], ◌∷◌, Option, Some, codes, Result, Ok}
use Rattle.std.specs.Prelude.{Err, All}
use Rattle.std.specs.Str.{IsUtf8}
use Rattle.toml.specs.Data.{Data, Members, get_member}
use Rattle.toml.specs.Parse.{parse_document}
use Rattle.dr_base.specs.Texts.{Text}
use Rattle.dr_route.specs.declared.rule.Rule.{Rule}
use Rattle.dr_route.specs.declared.rule.Pattern.TheVariants.{Any}
use Rattle.dr_route.specs.declared.rule.FieldPattern.TheVariants as field
use Rattle.dr_plan_model.specs.declared.plan.Format.{Format}
use Rattle.dr_plan_model.specs.declared.plan.Format.TheVariants.{One}
use Rattle.dr_plan_model.specs.Formed.{IsClass, RuleFits, ValuesFit}
use Rattle.dr_plan_model.specs.Listening.{ListensFits, MayAccept}
use Rattle.dr_plan_text.specs.Fields.{SaysText, SaysFormed, SaysNumber, SaysFlag, SaysFormat}
use Rattle.dr_plan_text.specs.Fields.{SaysPattern, SaysField, SaysExceptions, SaysValues}
use Rattle.dr_plan_text.specs.Fields.{SaysCallers}
use Rattle.dr_plan_text.specs.Fields.{SaysTable, SaysTextsOnce, IsListOf, IsSomeOf, Given, GivenOr}
use Rattle.dr_plan_text.specs.Fields.{HasOnly}
use Rattle.dr_plan_text.specs.Listening.{IsListens}
use Rattle.dr_plan_text.specs.declared.words.AcceptText.{AcceptText}
use Rattle.dr_plan_text.specs.declared.words.NodeText.{NodeText}
use Rattle.dr_plan_text.specs.declared.words.FlowText.{FlowText}
use Rattle.dr_plan_text.specs.declared.words.PlanText.{PlanText}
use Rattle.dr_plan_text.specs.declared.fault.TextFault.{TextFault}
use Rattle.dr_plan_text.specs.declared.fault.TextFault.TheVariants as fault

-- the keys of an accept row, `[[node.accept]]`
abbrev pub accept_keys : List Text
accept_keys = codes "from" ∷ codes "class" ∷ codes "syntax" ∷ []

-- the table says the accept row: callers, class and transfer syntaxes have to be given
pub record IsAcceptTable (fields : Members) (row : AcceptText) : Type 0 where
  pub only : HasOnly accept_keys fields
  pub from : Given SaysCallers (get_member (codes "from") fields) row.from
  pub class : Given (SaysFormed IsClass) (get_member (codes "class") fields) row.class
  pub syntax : Given SaysTextsOnce (get_member (codes "syntax") fields) row.syntaxes

-- the keys of a rule, `[[node.rule]]`
abbrev pub rule_keys : List Text
rule_keys =
    codes "from" ∷ codes "class" ∷ codes "modality" ∷ codes "station" ∷ codes "to" ∷ codes "keep"
    ∷ codes "except" ∷ []

-- the table says the rule: what isn't given is any value, no station that is excepted, no target,
-- and not kept
pub record IsRuleTable (fields : Members) (rule : Rule) : Type 0 where
  pub only : HasOnly rule_keys fields
  pub from : GivenOr Any (SaysPattern SaysText) (get_member (codes "from") fields) rule.from
  pub class :
      GivenOr Any (SaysPattern (SaysFormed IsClass)) (get_member (codes "class") fields) rule.class
  pub modality : GivenOr field.Any SaysField (get_member (codes "modality") fields) rule.modality
  pub station : GivenOr field.Any SaysField (get_member (codes "station") fields) rule.station
  pub except : GivenOr [] SaysExceptions (get_member (codes "except") fields) rule.except
  pub to : GivenOr [] (IsListOf SaysText) (get_member (codes "to") fields) rule.to
  pub keep : GivenOr false SaysFlag (get_member (codes "keep") fields) rule.keep

-- the keys of a node, `[[node]]`
abbrev pub node_keys : List Text
node_keys =
    codes "name" ∷ codes "address" ∷ codes "max_pdu" ∷ codes "accept" ∷ codes "rule"
    ∷ codes "listens" ∷ codes "bind" ∷ []

-- the table says the node: its name has to be given, and its address where it listens; `max_pdu` is
-- 16,384 where it isn't given, and what listens nowhere has no accept row
pub record IsNodeTable (fields : Members) (node : NodeText) : Type 0 where
  pub only : HasOnly node_keys fields
  pub name : Given SaysText (get_member (codes "name") fields) node.name
  pub listens : IsListens false fields node.listens
  pub max_pdu : GivenOr (pos 16384) SaysNumber (get_member (codes "max_pdu") fields) node.max_pdu
  pub accept : GivenOr [] (IsListOf (SaysTable IsAcceptTable)) (get_member (codes "accept") fields)
      node.accepts
  pub rule :
      GivenOr [] (IsListOf (SaysTable IsRuleTable)) (get_member (codes "rule") fields) node.rules
  pub may_accept : MayAccept node.listens node.accepts

-- the keys of a flow, `[[flow]]`
abbrev pub flow_keys : List Text
flow_keys =
    codes "at" ∷ codes "to" ∷ codes "class" ∷ codes "syntax" ∷ codes "modality" ∷ codes "station"
    ∷ []

-- the table says the flow: each of its six values has to be given
pub record IsFlowTable (fields : Members) (flow : FlowText) : Type 0 where
  pub only : HasOnly flow_keys fields
  pub at : Given SaysText (get_member (codes "at") fields) flow.at
  pub to : Given SaysText (get_member (codes "to") fields) flow.to
  pub class : Given (IsSomeOf (SaysFormed IsClass)) (get_member (codes "class") fields) flow.classes
  pub syntax : Given (IsSomeOf SaysText) (get_member (codes "syntax") fields) flow.syntaxes
  pub modality : Given SaysValues (get_member (codes "modality") fields) flow.modalities
  pub station : Given SaysValues (get_member (codes "station") fields) flow.stations

-- the format, which is 1 where the text doesn't say it
abbrev pub IsFormat : Option Data → Format → Type 0
IsFormat value format = GivenOr One SaysFormat value format

-- the plan's format has what its rules and flows name for modality and for station, what its rules
-- except, and how its nodes listen
pub record FitsFormat (plan : PlanText) : Type 0 where
  pub rules : All (λ node. All (λ rule. RuleFits plan.format rule) node.rules) plan.nodes
  pub flows : All (λ flow. ValuesFit plan.format flow.modalities flow.stations) plan.flows
  pub listen : All (λ node. ListensFits plan.format node.listens) plan.nodes

-- the keys of the text as a whole
abbrev pub root_keys : List Text
root_keys = codes "format" ∷ codes "node" ∷ codes "flow" ∷ []

-- the text's root table says the plan: its format, and nodes and flows that fit it
pub record IsRoot (fields : Members) (plan : PlanText) : Type 0 where
  pub only : HasOnly root_keys fields
  pub format : IsFormat (get_member (codes "format") fields) plan.format
  pub node :
      GivenOr [] (IsListOf (SaysTable IsNodeTable)) (get_member (codes "node") fields) plan.nodes
  pub flow :
      GivenOr [] (IsListOf (SaysTable IsFlowTable)) (get_member (codes "flow") fields) plan.flows
  pub fits : FitsFormat plan

-- the bytes are text in UTF-8, which TOML reads as this tree
abbrev pub IsTree : Text → Members → Type 0
IsTree text root = IsUtf8 text × (parse_document text ≡ Some root)

-- the bytes are text in TOML, of some tree
abbrev pub IsToml : Text → Type 0
IsToml text = (root : Members) × IsTree text root

-- the text writes this plan
abbrev pub Writes : Text → PlanText → Type 0
Writes text plan = (root : Members) × IsTree text root × IsRoot root plan

-- what is read of a text: the plan that it writes, else the first fault
abbrev pub ReadsText : Text → Result PlanText TextFault → Type 0
ReadsText text (Ok plan) = Writes text plan
ReadsText text (Err fault.NotToml) = IsToml text → ⊥
ReadsText text (Err fault.Field) = IsToml text × ((plan : PlanText) → Writes text plan → ⊥)
ReadsText text (Err fault.Memory) = text ≢ []
