-- Small texts that name modalities by what they begin with.
use Rattle.std.proofs.Common.{◌≡◌, refl, subst, pos, List, [], ◌∷◌, ◌++◌, codes, Some, arith, lit<, lit≤}
use Rattle.std.specs.Prelude.{All}
use Rattle.std.proofs.lemmas.List.Elements.{All-nil, All-cons}
use Rattle.toml.specs.Data.{Data, string, integer, array, table, no_items, item, Members, no_members, member}
use Rattle.toml.specs.Parse.{parse_document}
use Rattle.toml.proofs.OnLiterals.{toml_on_literals}
use Rattle.dr_route.specs.declared.rule.FieldPattern.TheVariants as field
use Rattle.dr_plan_model.specs.declared.plan.Format.{Format}
use Rattle.dr_plan_model.specs.declared.plan.Format.TheVariants.{Two, Three}
use Rattle.dr_plan_model.specs.Formed.{IsPrefix, RuleFits}
use Rattle.dr_plan_text.specs.declared.words.NodeText.{NodeText}
use Rattle.dr_plan_text.specs.declared.words.FlowText.{FlowText}
use Rattle.dr_plan_text.specs.Fields.{SaysValues, SaysTable, IsListOf}
use Rattle.dr_plan_text.specs.Tables.{IsRuleTable, IsNodeTable, IsFlowTable, IsRoot}
use Rattle.dr_plan_text.specs.Laws.{RuleModalityIsWritten, RuleModalityIsOfFormatThree, FlowModalityIsWritten, FlowModalityIsOfFormatThree, second_format, third_format, modality_rule_text, modality_flow_text, written_modality_rule, written_modality_node, written_modality_flow}
use Rattle.dr_plan_text.proofs.Trimmed.{trimmed}
use Rattle.dr_plan_text.proofs.OfValues.{SaysFormat-one}
use Rattle.dr_plan_text.proofs.OnePlan.{nodes_one, flows_one}
use Rattle.dr_plan_text.proofs.PrefixTexts.{IsPlain, mr_is, class_is}
use Rattle.dr_plan_text.proofs.SmallTexts.{RulesFit, FlowFits, ListensOf, address_is, the_tree}

pub c_is : IsPrefix (codes "C")
c_is = record {
  literal = record {
    short = lit≤ tt;
    printable = All-cons IsPlain 67 [] (lit≤ tt, lit< tt, λ e. omega arith) (All-nil IsPlain);
    trimmed = trimmed (codes "C") 0 refl (λ e. omega arith) (λ e. omega arith);
  };
  some = λ e. cc;
}

rule_members : Members
rule_members = member (codes "modality") (string (codes "C*")) no_members

node_members : Members
unfolding rule_members
node_members = member (codes "address") (string (codes "h:1")) (member (codes "name") (string (codes "A")) (member (codes "rule") (array (item (table rule_members) no_items)) no_members))

node_array : Data
node_array = array (item (table node_members) no_items)

rule_said : IsRuleTable rule_members written_modality_rule
unfolding rule_members
rule_said = record {
  only = ((2, lit< tt, refl), tt);
  from = refl;
  class = refl;
  modality = (refl, c_is);
  station = refl;
  except = refl;
  to = refl;
  keep = refl;
}

node_said : IsNodeTable node_members written_modality_node
unfolding node_members
node_said = record {
  only = ((1, lit< tt, refl), ((0, lit< tt, refl), ((4, lit< tt, refl), tt)));
  name = refl;
  listens = (refl, (refl, address_is), refl);
  max_pdu = refl;
  accept = refl;
  rule = (item (table rule_members) no_items, refl, ((rule_members, refl, rule_said), tt));
  may_accept = tt;
}

rule_parsed : parse_document (third_format ++ modality_rule_text) ≡ Some (member (codes "format") (integer (pos 3)) (member (codes "node") node_array no_members))
unfolding toml_on_literals rule_members node_members node_array
rule_parsed = refl

rule_of_2_parsed : parse_document (second_format ++ modality_rule_text) ≡ Some (member (codes "format") (integer (pos 2)) (member (codes "node") node_array no_members))
unfolding toml_on_literals rule_members node_members node_array
rule_of_2_parsed = refl

-- the array says the node alone
node_listed : IsListOf (SaysTable IsNodeTable) node_array (written_modality_node ∷ [])
unfolding node_array
node_listed = (item (table node_members) no_items, refl, ((node_members, refl, node_said), tt))

pub rule_prefix : RuleModalityIsWritten
unfolding lib.Utf8.encode
rule_prefix = (
  member (codes "format") (integer (pos 3)) (member (codes "node") node_array no_members),
  ((third_format ++ modality_rule_text, (refl, refl)), rule_parsed),
  record {
    only = ((0, lit< tt, refl), ((1, lit< tt, refl), tt));
    format = refl;
    node = node_listed;
    flow = refl;
    fits = record {
      rules = All-cons (RulesFit Three) written_modality_node [] (All-cons (RuleFits Three) written_modality_rule [] (tt, tt, tt) (All-nil (RuleFits Three))) (All-nil (RulesFit Three));
      flows = All-nil (FlowFits Three);
      listen = All-cons (ListensOf Three) written_modality_node [] tt (All-nil (ListensOf Three));
    };
  },
)

pub rule_of_2 : RuleModalityIsOfFormatThree
rule_of_2 = λ plan w.
    let root : Members = member (codes "format") (integer (pos 2)) (member (codes "node") node_array no_members) in
    let P : Members → Type 0 = λ fields. IsRoot fields plan in
    let is : IsRoot root plan = subst P (the_tree (second_format ++ modality_rule_text) root w.0 rule_of_2_parsed w.1.1) w.2 in
    let nodes : plan.nodes ≡ written_modality_node ∷ [] = nodes_one root plan.nodes (written_modality_node ∷ []) is.node node_listed in
    let Q : Format → Type 0 = λ format. All (RulesFit format) plan.nodes in
    let R : List NodeText → Type 0 = λ all. All (RulesFit Two) all in
    let fits : All (RulesFit Two) (written_modality_node ∷ []) = subst R nodes (subst Q (SaysFormat-one (integer (pos 2)) plan.format Two is.format refl) is.fits.rules) in
    let none : codes "C" ∷ [] ≡ [] = (fits 0 written_modality_node (lit< tt) 0 written_modality_rule (lit< tt)).0 in
    cc

flow_members : Members
flow_members = member (codes "at") (string (codes "A")) (member (codes "class") (array (item (string (codes "1")) no_items))
    (member (codes "modality") (array (item (string (codes "MR")) (item (string (codes "C*")) no_items))) (member (codes "station") (string (codes "*"))
    (member (codes "syntax") (array (item (string (codes "1")) no_items)) (member (codes "to") (string (codes "B")) no_members)))))

flow_array : Data
flow_array = array (item (table flow_members) no_items)

modalities_said : SaysValues (array (item (string (codes "MR")) (item (string (codes "C*")) no_items))) written_modality_flow.modalities
modalities_said = (
  field.Literal (codes "MR") ∷ field.Prefix (codes "C") ∷ [],
  (item (string (codes "MR")) (item (string (codes "C*")) no_items), refl, ((refl, mr_is), ((refl, c_is), tt))),
  refl,
  refl,
)

flow_said : IsFlowTable flow_members written_modality_flow
unfolding flow_members
flow_said = record {
  only = ((0, lit< tt, refl), ((2, lit< tt, refl), ((4, lit< tt, refl), ((5, lit< tt, refl), ((3, lit< tt, refl), ((1, lit< tt, refl), tt))))));
  at = refl;
  to = refl;
  class = ((item (string (codes "1")) no_items, refl, ((refl, class_is), tt)), λ e. cc);
  syntax = ((item (string (codes "1")) no_items, refl, (refl, tt)), λ e. cc);
  modality = modalities_said;
  station = refl;
}

flow_parsed : parse_document (third_format ++ modality_flow_text) ≡ Some (member (codes "flow") flow_array (member (codes "format") (integer (pos 3)) no_members))
unfolding toml_on_literals flow_members flow_array
flow_parsed = refl

flow_of_2_parsed : parse_document (second_format ++ modality_flow_text) ≡ Some (member (codes "flow") flow_array (member (codes "format") (integer (pos 2)) no_members))
unfolding toml_on_literals flow_members flow_array
flow_of_2_parsed = refl

-- the array says the flow alone
flow_listed : IsListOf (SaysTable IsFlowTable) flow_array (written_modality_flow ∷ [])
unfolding flow_array
flow_listed = (item (table flow_members) no_items, refl, ((flow_members, refl, flow_said), tt))

pub flow_prefix : FlowModalityIsWritten
unfolding lib.Utf8.encode
flow_prefix = (
  member (codes "flow") flow_array (member (codes "format") (integer (pos 3)) no_members),
  ((third_format ++ modality_flow_text, (refl, refl)), flow_parsed),
  record {
    only = ((2, lit< tt, refl), ((0, lit< tt, refl), tt));
    format = refl;
    node = refl;
    flow = flow_listed;
    fits = record { rules = All-nil (RulesFit Three); flows = All-cons (FlowFits Three) written_modality_flow [] (tt, tt) (All-nil (FlowFits Three)); listen = All-nil (ListensOf Three) };
  },
)

pub flow_of_2 : FlowModalityIsOfFormatThree
flow_of_2 = λ plan w.
    let root : Members = member (codes "flow") flow_array (member (codes "format") (integer (pos 2)) no_members) in
    let P : Members → Type 0 = λ fields. IsRoot fields plan in
    let is : IsRoot root plan = subst P (the_tree (second_format ++ modality_flow_text) root w.0 flow_of_2_parsed w.1.1) w.2 in
    let flows : plan.flows ≡ written_modality_flow ∷ [] = flows_one root plan.flows (written_modality_flow ∷ []) is.flow flow_listed in
    let Q : Format → Type 0 = λ format. All (FlowFits format) plan.flows in
    let R : List FlowText → Type 0 = λ all. All (FlowFits Two) all in
    let fits : All (FlowFits Two) (written_modality_flow ∷ []) = subst R flows (subst Q (SaysFormat-one (integer (pos 2)) plan.format Two is.format refl) is.fits.flows) in
    let none : codes "C" ∷ [] ≡ [] = (fits 0 written_modality_flow (lit< tt)).0 in
    cc
