-- What the tables of a text of format 3 say.
use Rattle.std.specs.Prelude.{◌≡◌, pos, true, false, List, [], ◌∷◌, Some, codes}
use Rattle.toml.specs.Data.{Members, get_member, integer}
use Rattle.dr_base.specs.Texts.{Text}
use Rattle.dr_route.specs.declared.rule.FieldPattern.TheVariants as field
use Rattle.dr_plan_model.specs.Listening.{MayAccept}
use Rattle.dr_plan_text.specs.Listening.{IsListens}
use Rattle.dr_plan_text.specs.Fields.{SaysText, SaysFormed, SaysNumber, SaysFlag, SaysField}
use Rattle.dr_plan_text.specs.Fields.{SaysValues, SaysCallers, SaysTable}
use Rattle.dr_plan_text.specs.Fields.{SaysTextsOnce, IsListOf, IsSomeOf, Given, GivenOr, HasOnly}
use Rattle.dr_plan_text.specs.Tables.{accept_keys, rule_keys, node_keys, flow_keys}
use Rattle.dr_plan_expand.specs.Fields.{SaysWords, SaysAnyWords, SaysStations, AreDefinitions}
use Rattle.dr_plan_expand.specs.Words.{IsPlainWord}
use Rattle.dr_plan_expand.specs.declared.short.AnyWords.TheVariants as any
use Rattle.dr_plan_expand.specs.declared.short.ShortRow.{ShortRow}
use Rattle.dr_plan_expand.specs.declared.short.ShortRule.{ShortRule}
use Rattle.dr_plan_expand.specs.declared.short.ShortNode.{ShortNode}
use Rattle.dr_plan_expand.specs.declared.short.ShortFlow.{ShortFlow}
use Rattle.dr_plan_expand.specs.declared.short.ShortPlan.{ShortPlan}

-- the table says the accept row: callers, classes and transfer syntaxes have to be given
pub record IsShortRow (fields : Members) (row : ShortRow) : Type 0 where
  pub only : HasOnly accept_keys fields
  pub from : Given SaysCallers (get_member (codes "from") fields) row.from
  pub class : Given SaysWords (get_member (codes "class") fields) row.classes
  pub syntax : Given SaysTextsOnce (get_member (codes "syntax") fields) row.syntaxes

-- the table says the rule: what isn't given is any value, no station that is excepted, no target,
-- and not kept
pub record IsShortRule (fields : Members) (rule : ShortRule) : Type 0 where
  pub only : HasOnly rule_keys fields
  pub from : GivenOr any.Any SaysAnyWords (get_member (codes "from") fields) rule.from
  pub class : GivenOr any.Any SaysAnyWords (get_member (codes "class") fields) rule.classes
  pub modality : GivenOr field.Any SaysField (get_member (codes "modality") fields) rule.modality
  pub station : GivenOr field.Any SaysField (get_member (codes "station") fields) rule.station
  pub except : GivenOr [] SaysStations (get_member (codes "except") fields) rule.except
  pub to : GivenOr [] (IsListOf SaysText) (get_member (codes "to") fields) rule.to
  pub keep : GivenOr false SaysFlag (get_member (codes "keep") fields) rule.keep

-- the table says the node: its name has to be given, which doesn't begin with `@`, and its address
-- where it listens, which may be said; `max_pdu` is 16,384 where it isn't given, and what listens
-- nowhere has no accept row
pub record IsShortNode (fields : Members) (node : ShortNode) : Type 0 where
  pub only : HasOnly node_keys fields
  pub name : Given (SaysFormed IsPlainWord) (get_member (codes "name") fields) node.name
  pub listens : IsListens true fields node.listens
  pub max_pdu : GivenOr (pos 16384) SaysNumber (get_member (codes "max_pdu") fields) node.max_pdu
  pub accept : GivenOr [] (IsListOf (SaysTable IsShortRow)) (get_member (codes "accept") fields)
      node.accepts
  pub rule :
      GivenOr [] (IsListOf (SaysTable IsShortRule)) (get_member (codes "rule") fields) node.rules
  pub may_accept : MayAccept node.listens node.accepts

-- the table says the flow: each of its six values has to be given
pub record IsShortFlow (fields : Members) (flow : ShortFlow) : Type 0 where
  pub only : HasOnly flow_keys fields
  pub at : Given SaysWords (get_member (codes "at") fields) flow.at
  pub to : Given SaysWords (get_member (codes "to") fields) flow.to
  pub class : Given SaysWords (get_member (codes "class") fields) flow.classes
  pub syntax : Given (IsSomeOf SaysText) (get_member (codes "syntax") fields) flow.syntaxes
  pub modality : Given SaysValues (get_member (codes "modality") fields) flow.modalities
  pub station : Given SaysValues (get_member (codes "station") fields) flow.stations

-- the keys of a text of format 3 as a whole
abbrev pub short_keys : List Text
short_keys =
    codes "format" ∷ codes "set" ∷ codes "group" ∷ codes "node" ∷ codes "flow" ∷ []

-- the text's root table is of format 3
abbrev pub IsThird : Members → Type 0
IsThird fields = get_member (codes "format") fields ≡ Some (integer (pos 3))

-- the text's root table says the plan: its format is 3, and the rest may be left out
pub record IsShortPlan (fields : Members) (plan : ShortPlan) : Type 0 where
  pub only : HasOnly short_keys fields
  pub format : IsThird fields
  pub set : GivenOr [] (SaysTable AreDefinitions) (get_member (codes "set") fields) plan.sets
  pub group : GivenOr [] (SaysTable AreDefinitions) (get_member (codes "group") fields) plan.groups
  pub node :
      GivenOr [] (IsListOf (SaysTable IsShortNode)) (get_member (codes "node") fields) plan.nodes
  pub flow :
      GivenOr [] (IsListOf (SaysTable IsShortFlow)) (get_member (codes "flow") fields) plan.flows
