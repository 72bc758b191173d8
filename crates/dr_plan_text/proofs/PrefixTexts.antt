-- Small texts that name stations by what they begin with.
use Rattle.std.proofs.Common.{◌≡◌, ℕ, ◌<◌, ◌≤◌, ◌⊎◌, refl, subst, pos, inl, List, [], ◌∷◌, ◌++◌, codes, Some, arith, lit<, lit≤}
use Rattle.std.specs.Prelude.{All}
use Rattle.std.proofs.lemmas.List.Elements.{All-nil, All-cons}
use Rattle.toml.specs.Data.{Data, string, integer, array, table, no_items, item, Members, no_members, member}
use Rattle.toml.specs.Parse.{parse_document}
use Rattle.toml.proofs.OnLiterals.{toml_on_literals}
use Rattle.dr_route.specs.declared.rule.FieldPattern.TheVariants as field
use Rattle.dr_plan_model.specs.declared.plan.Format.{Format}
use Rattle.dr_plan_model.specs.declared.plan.Format.TheVariants.{One, Two}
use Rattle.dr_plan_model.specs.Formed.{IsLiteral, IsPrefix, IsClass, IsDigit, RuleFits}
use Rattle.dr_plan_text.specs.declared.words.NodeText.{NodeText}
use Rattle.dr_plan_text.specs.declared.words.FlowText.{FlowText}
use Rattle.dr_plan_text.specs.Fields.{SaysValues, SaysTable, IsListOf}
use Rattle.dr_plan_text.specs.Tables.{IsRuleTable, IsNodeTable, IsFlowTable, IsRoot}
use Rattle.dr_plan_text.specs.Laws.{RulePrefixIsWritten, RulePrefixIsOfFormatTwo, FlowPrefixIsWritten, FlowPrefixIsOfFormatTwo, second_format, rule_text, written_rule, written_rule_node, flow_text, written_flow_text}
use Rattle.dr_plan_text.proofs.Trimmed.{trimmed}
use Rattle.dr_plan_text.proofs.OnePlan.{nodes_one, flows_one}
use Rattle.dr_plan_text.proofs.SmallTexts.{RulesFit, FlowFits, ListensOf, address_is, the_tree}

-- a byte that a literal may have
abbrev pub IsPlain : ℕ → Type 0
IsPlain byte = (32 ≤ byte) × (byte < 127) × (byte ≡ 42 → ⊥)

two_bytes : (a b : ℕ) → IsPlain a → IsPlain b → (a ≡ 32 → ⊥) → (b ≡ 32 → ⊥) → IsLiteral (a ∷ b ∷ [])
two_bytes a b first last no_space no_space_behind = record {
  short = lit≤ tt;
  printable = All-cons IsPlain a (b ∷ []) first (All-cons IsPlain b [] last (All-nil IsPlain));
  trimmed = trimmed (a ∷ b ∷ []) 1 refl no_space no_space_behind;
}

pub ct_is : IsPrefix (codes "CT")
ct_is = record {
  literal = two_bytes 67 84 (lit≤ tt, lit< tt, λ e. omega arith) (lit≤ tt, lit< tt, λ e. omega arith) (λ e. omega arith) (λ e. omega arith);
  some = λ e. cc;
}

pub mr_is : IsLiteral (codes "MR")
mr_is = two_bytes 77 82 (lit≤ tt, lit< tt, λ e. omega arith) (lit≤ tt, lit< tt, λ e. omega arith) (λ e. omega arith) (λ e. omega arith)

pub class_is : IsClass (codes "1")
class_is =
    let P : ℕ → Type 0 = λ byte. IsDigit byte ⊎ (byte ≡ 46) in
    record { some = λ e. cc; short = lit≤ tt; digits = All-cons P 49 [] (inl (lit≤ tt, lit≤ tt)) (All-nil P) }

rule_members : Members
rule_members = member (codes "station") (string (codes "CT*")) no_members

node_members : Members
unfolding rule_members
node_members = member (codes "address") (string (codes "h:1")) (member (codes "name") (string (codes "A")) (member (codes "rule") (array (item (table rule_members) no_items)) no_members))

node_array : Data
node_array = array (item (table node_members) no_items)

rule_said : IsRuleTable rule_members written_rule
unfolding rule_members
rule_said = record {
  only = ((3, lit< tt, refl), tt);
  from = refl;
  class = refl;
  modality = refl;
  station = (refl, ct_is);
  except = refl;
  to = refl;
  keep = refl;
}

node_said : IsNodeTable node_members written_rule_node
unfolding node_members
node_said = record {
  only = ((1, lit< tt, refl), ((0, lit< tt, refl), ((4, lit< tt, refl), tt)));
  name = refl;
  listens = (refl, (refl, address_is), refl);
  max_pdu = refl;
  accept = refl;
  rule = (item (table rule_members) no_items, refl, ((rule_members, refl, rule_said), tt));
  may_accept = tt;
}

rule_parsed : parse_document (second_format ++ rule_text) ≡ Some (member (codes "format") (integer (pos 2)) (member (codes "node") node_array no_members))
unfolding toml_on_literals rule_members node_members node_array
rule_parsed = refl

rule_of_1_parsed : parse_document rule_text ≡ Some (member (codes "node") node_array no_members)
unfolding toml_on_literals rule_members node_members node_array
rule_of_1_parsed = refl

-- the array says the node alone
node_listed : IsListOf (SaysTable IsNodeTable) node_array (written_rule_node ∷ [])
unfolding node_array
node_listed = (item (table node_members) no_items, refl, ((node_members, refl, node_said), tt))

pub rule_prefix : RulePrefixIsWritten
unfolding lib.Utf8.encode
rule_prefix = (
  member (codes "format") (integer (pos 2)) (member (codes "node") node_array no_members),
  ((second_format ++ rule_text, (refl, refl)), rule_parsed),
  record {
    only = ((0, lit< tt, refl), ((1, lit< tt, refl), tt));
    format = refl;
    node = node_listed;
    flow = refl;
    fits = record {
      rules = All-cons (RulesFit Two) written_rule_node [] (All-cons (RuleFits Two) written_rule [] (refl, tt, refl) (All-nil (RuleFits Two))) (All-nil (RulesFit Two));
      flows = All-nil (FlowFits Two);
      listen = All-cons (ListensOf Two) written_rule_node [] refl (All-nil (ListensOf Two));
    };
  },
)

pub rule_of_1 : RulePrefixIsOfFormatTwo
rule_of_1 = λ plan w.
    let root : Members = member (codes "node") node_array no_members in
    let P : Members → Type 0 = λ fields. IsRoot fields plan in
    let is : IsRoot root plan = subst P (the_tree rule_text root w.0 rule_of_1_parsed w.1.1) w.2 in
    let nodes : plan.nodes ≡ written_rule_node ∷ [] = nodes_one root plan.nodes (written_rule_node ∷ []) is.node node_listed in
    let Q : Format → Type 0 = λ format. All (RulesFit format) plan.nodes in
    let R : List NodeText → Type 0 = λ all. All (RulesFit One) all in
    let fits : All (RulesFit One) (written_rule_node ∷ []) = subst R nodes (subst Q is.format is.fits.rules) in
    let none : codes "CT" ∷ [] ≡ [] = (fits 0 written_rule_node (lit< tt) 0 written_rule (lit< tt)).1 in
    cc

flow_members : Members
flow_members = member (codes "at") (string (codes "A")) (member (codes "class") (array (item (string (codes "1")) no_items)) (member (codes "modality") (string (codes "*"))
    (member (codes "station") (array (item (string (codes "MR")) (item (string (codes "CT*")) no_items))) (member (codes "syntax") (array (item (string (codes "1")) no_items))
    (member (codes "to") (string (codes "B")) no_members)))))

flow_array : Data
flow_array = array (item (table flow_members) no_items)

stations_said : SaysValues (array (item (string (codes "MR")) (item (string (codes "CT*")) no_items))) written_flow_text.stations
stations_said = (
  field.Literal (codes "MR") ∷ field.Prefix (codes "CT") ∷ [],
  (item (string (codes "MR")) (item (string (codes "CT*")) no_items), refl, ((refl, mr_is), ((refl, ct_is), tt))),
  refl,
  refl,
)

flow_said : IsFlowTable flow_members written_flow_text
unfolding flow_members
flow_said = record {
  only = ((0, lit< tt, refl), ((2, lit< tt, refl), ((4, lit< tt, refl), ((5, lit< tt, refl), ((3, lit< tt, refl), ((1, lit< tt, refl), tt))))));
  at = refl;
  to = refl;
  class = ((item (string (codes "1")) no_items, refl, ((refl, class_is), tt)), λ e. cc);
  syntax = ((item (string (codes "1")) no_items, refl, (refl, tt)), λ e. cc);
  modality = refl;
  station = stations_said;
}

flow_parsed : parse_document (second_format ++ flow_text) ≡ Some (member (codes "flow") flow_array (member (codes "format") (integer (pos 2)) no_members))
unfolding toml_on_literals flow_members flow_array
flow_parsed = refl

flow_of_1_parsed : parse_document flow_text ≡ Some (member (codes "flow") flow_array no_members)
unfolding toml_on_literals flow_members flow_array
flow_of_1_parsed = refl

-- the array says the flow alone
flow_listed : IsListOf (SaysTable IsFlowTable) flow_array (written_flow_text ∷ [])
unfolding flow_array
flow_listed = (item (table flow_members) no_items, refl, ((flow_members, refl, flow_said), tt))

pub flow_prefix : FlowPrefixIsWritten
unfolding lib.Utf8.encode
flow_prefix = (
  member (codes "flow") flow_array (member (codes "format") (integer (pos 2)) no_members),
  ((second_format ++ flow_text, (refl, refl)), flow_parsed),
  record {
    only = ((2, lit< tt, refl), ((0, lit< tt, refl), tt));
    format = refl;
    node = refl;
    flow = flow_listed;
    fits = record { rules = All-nil (RulesFit Two); flows = All-cons (FlowFits Two) written_flow_text [] (refl, tt) (All-nil (FlowFits Two)); listen = All-nil (ListensOf Two) };
  },
)

pub flow_of_1 : FlowPrefixIsOfFormatTwo
flow_of_1 = λ plan w.
    let root : Members = member (codes "flow") flow_array no_members in
    let P : Members → Type 0 = λ fields. IsRoot fields plan in
    let is : IsRoot root plan = subst P (the_tree flow_text root w.0 flow_of_1_parsed w.1.1) w.2 in
    let flows : plan.flows ≡ written_flow_text ∷ [] = flows_one root plan.flows (written_flow_text ∷ []) is.flow flow_listed in
    let Q : Format → Type 0 = λ format. All (FlowFits format) plan.flows in
    let R : List FlowText → Type 0 = λ all. All (FlowFits One) all in
    let fits : All (FlowFits One) (written_flow_text ∷ []) = subst R flows (subst Q is.format is.fits.flows) in
    let none : codes "CT" ∷ [] ≡ [] = (fits 0 written_flow_text (lit< tt)).1 in
    cc
