-- Small texts of rules that except stations.
use Rattle.std.proofs.Common.{◌≡◌, ◌<◌, ◌≤◌, ℕ, refl, sym, subst, pos, List, [], ◌∷◌, ◌++◌, codes, Option, Some, arith, lit<, lit≤}
use Rattle.std.specs.Prelude.{All}
use Rattle.std.proofs.lemmas.List.Elements.{All-nil, All-cons}
use Rattle.toml.specs.Data.{Data, string, integer, array, table, Items, no_items, item, Members, no_members, member, get_member}
use Rattle.toml.specs.Parse.{parse_document}
use Rattle.toml.proofs.OnLiterals.{toml_on_literals}
use Rattle.dr_base.specs.Texts.{Text}
use Rattle.dr_route.specs.declared.rule.Rule.{Rule}
use Rattle.dr_plan_model.specs.declared.plan.Format.{Format}
use Rattle.dr_plan_model.specs.declared.plan.Format.TheVariants.{Two, Three}
use Rattle.dr_plan_model.specs.Formed.{IsLiteral, RuleFits}
use Rattle.dr_plan_text.specs.declared.words.NodeText.{NodeText}
use Rattle.dr_plan_text.specs.declared.words.PlanText.{PlanText}
use Rattle.dr_plan_text.specs.Fields.{SaysFormed, SaysExceptions, SaysTable, ListsValues, IsListOf, GivenOr}
use Rattle.dr_plan_text.specs.Tables.{IsRuleTable, IsNodeTable, IsRoot, Writes}
use Rattle.dr_plan_text.specs.Laws.{ExceptionIsWritten, ExceptionIsOfFormatThree, ExceptionIsNoPrefix, NoExceptionIsWritten, second_format, third_format, rule_text, except_text, written_except_rule, written_except_node}
use Rattle.dr_plan_text.proofs.Trimmed.{trimmed}
use Rattle.dr_plan_text.proofs.OfValues.{SaysFormat-one}
use Rattle.dr_plan_text.proofs.OnePlan.{nodes_one}
use Rattle.dr_plan_text.proofs.PrefixTexts.{IsPlain, ct_is}
use Rattle.dr_plan_text.proofs.Unnamed.{no_star_within}
use Rattle.dr_plan_text.proofs.ListenTexts.{lone}
use Rattle.dr_plan_text.proofs.SmallTexts.{RulesFit, FlowFits, ListensOf, address_is, the_tree}

pub ct9_is : IsLiteral (codes "CT9")
ct9_is = record {
  short = lit≤ tt;
  printable = All-cons IsPlain 67 (codes "T9") (lit≤ tt, lit< tt, λ e. omega arith) (All-cons IsPlain 84 (codes "9") (lit≤ tt, lit< tt, λ e. omega arith)
      (All-cons IsPlain 57 [] (lit≤ tt, lit< tt, λ e. omega arith) (All-nil IsPlain)));
  trimmed = trimmed (codes "CT9") 2 refl (λ e. omega arith) (λ e. omega arith);
}

-- a rule for the stations that begin with CT, with these exceptions
rule_members : Data → Members
rule_members exceptions = member (codes "except") exceptions (member (codes "station") (string (codes "CT*")) no_members)

-- node A with this rule
node_members : Members → Members
node_members rule = member (codes "address") (string (codes "h:1")) (member (codes "name") (string (codes "A")) (member (codes "rule") (array (item (table rule) no_items)) no_members))

except_array : Data
except_array = array (item (string (codes "CT9")) no_items)

node_array : Data
node_array = array (item (table (node_members (rule_members except_array))) no_items)

rule_said : IsRuleTable (rule_members except_array) written_except_rule
unfolding rule_members except_array
rule_said = record {
  only = ((6, lit< tt, refl), ((3, lit< tt, refl), tt));
  from = refl;
  class = refl;
  modality = refl;
  station = (refl, ct_is);
  except = ((item (string (codes "CT9")) no_items, refl, ((refl, ct9_is), tt)), λ e. cc);
  to = refl;
  keep = refl;
}

node_said : IsNodeTable (node_members (rule_members except_array)) written_except_node
unfolding node_members
node_said = record {
  only = ((1, lit< tt, refl), ((0, lit< tt, refl), ((4, lit< tt, refl), tt)));
  name = refl;
  listens = (refl, (refl, address_is), refl);
  max_pdu = refl;
  accept = refl;
  rule = (item (table (rule_members except_array)) no_items, refl, ((rule_members except_array, refl, rule_said), tt));
  may_accept = tt;
}

rule_parsed : parse_document (third_format ++ except_text) ≡ Some (member (codes "format") (integer (pos 3)) (member (codes "node") node_array no_members))
unfolding toml_on_literals rule_members node_members except_array node_array
rule_parsed = refl

rule_of_2_parsed : parse_document (second_format ++ except_text) ≡ Some (member (codes "format") (integer (pos 2)) (member (codes "node") node_array no_members))
unfolding toml_on_literals rule_members node_members except_array node_array
rule_of_2_parsed = refl

-- the array says the node alone
node_listed : IsListOf (SaysTable IsNodeTable) node_array (written_except_node ∷ [])
unfolding node_array
node_listed = (item (table (node_members (rule_members except_array))) no_items, refl, ((node_members (rule_members except_array), refl, node_said), tt))

pub excepted : ExceptionIsWritten
unfolding lib.Utf8.encode
excepted = (
  member (codes "format") (integer (pos 3)) (member (codes "node") node_array no_members),
  ((third_format ++ except_text, (refl, refl)), rule_parsed),
  record {
    only = ((0, lit< tt, refl), ((1, lit< tt, refl), tt));
    format = refl;
    node = node_listed;
    flow = refl;
    fits = record {
      rules = All-cons (RulesFit Three) written_except_node [] (All-cons (RuleFits Three) written_except_rule [] (tt, tt, tt) (All-nil (RuleFits Three))) (All-nil (RulesFit Three));
      flows = All-nil (FlowFits Three);
      listen = All-cons (ListensOf Three) written_except_node [] tt (All-nil (ListensOf Three));
    };
  },
)

pub excepted_of_2 : ExceptionIsOfFormatThree
excepted_of_2 = λ plan w.
    let root : Members = member (codes "format") (integer (pos 2)) (member (codes "node") node_array no_members) in
    let P : Members → Type 0 = λ fields. IsRoot fields plan in
    let is : IsRoot root plan = subst P (the_tree (second_format ++ except_text) root w.0 rule_of_2_parsed w.1.1) w.2 in
    let nodes : plan.nodes ≡ written_except_node ∷ [] = nodes_one root plan.nodes (written_except_node ∷ []) is.node node_listed in
    let Q : Format → Type 0 = λ format. All (RulesFit format) plan.nodes in
    let R : List NodeText → Type 0 = λ all. All (RulesFit Two) all in
    let fits : All (RulesFit Two) (written_except_node ∷ []) = subst R nodes (subst Q (SaysFormat-one (integer (pos 2)) plan.format Two is.format refl) is.fits.rules) in
    let none : codes "CT9" ∷ [] ≡ [] = (fits 0 written_except_node (lit< tt) 0 written_except_rule (lit< tt)).2 in
    cc

-- the one rule of an array of one table
the_rule : (fields : Members) (rules : List Rule) → IsListOf (SaysTable IsRuleTable) (array (item (table fields) no_items)) rules → (rule : Rule) × IsRuleTable fields rule
the_rule fields rules says =
    first rules (let same : item (table fields) no_items ≡ says.0 = (let e = says.1 in cc) in let P : Items → Type 0 = λ items. ListsValues (SaysTable IsRuleTable) items rules in subst P (sym same) says.2)
  where
    first : (rules : List Rule) → ListsValues (SaysTable IsRuleTable) (item (table fields) no_items) rules → (rule : Rule) × IsRuleTable fields rule
    first [] h = absurd h
    first (rule ∷ rules) h = (rule, (let same : fields ≡ h.0.0 = (let e = h.0.1 in cc) in rw same h.0.2))

-- the rule of a node that says one
rule_of_node : (fields : Members) (node : NodeText) → IsNodeTable (node_members fields) node → (rule : Rule) × IsRuleTable fields rule
unfolding node_members
rule_of_node fields node is = the_rule fields node.rules is.rule

-- the exceptions of a rule that gives them
exceptions_of : (exceptions : Data) (rule : Rule) → IsRuleTable (rule_members exceptions) rule → SaysExceptions exceptions rule.except
unfolding rule_members
exceptions_of exceptions rule is = is.except

-- those of the one rule of the one node of a text, if it writes a plan
lone_exceptions : (text : Text) (exceptions : Data) (plan : PlanText)
    → parse_document text ≡ Some (member (codes "format") (integer (pos 3)) (member (codes "node") (array (item (table (node_members (rule_members exceptions))) no_items)) no_members))
    → Writes text plan → (stations : List Text) × SaysExceptions exceptions stations
lone_exceptions text exceptions plan parsed w =
    let node = lone text (node_members (rule_members exceptions)) plan parsed w in
    let rule = rule_of_node (rule_members exceptions) node.0 node.1 in
    (rule.0.except, exceptions_of exceptions rule.0 rule.1)

-- an array without items says the empty list alone
none_listed : (Says : Data → Text → Type 0) (stations : List Text) → IsListOf Says (array no_items) stations → stations ≡ []
none_listed Says [] says = refl
none_listed Says (station ∷ stations) says = absurd (
    let e = says.1 in
    let same : no_items ≡ says.0 = cc in
    let P : Items → Type 0 = λ items. ListsValues Says items (station ∷ stations) in
    subst P (sym same) says.2)

empty_parsed : parse_document (third_format ++ rule_text ++ codes "except = []\n") ≡
    Some (member (codes "format") (integer (pos 3)) (member (codes "node") (array (item (table (node_members (rule_members (array no_items)))) no_items)) no_members))
unfolding toml_on_literals rule_members node_members
empty_parsed = refl

pub none_excepted : NoExceptionIsWritten
none_excepted = λ plan w.
    let said = lone_exceptions _ (array no_items) plan empty_parsed w in
    said.1.1 (none_listed (SaysFormed IsLiteral) said.0 said.1.0)

-- a list of one text is no list of exceptions where that is no literal
no_literal_listed : (text : Text) → (IsLiteral text → ⊥) → (stations : List Text) → IsListOf (SaysFormed IsLiteral) (array (item (string text) no_items)) stations → ⊥
no_literal_listed text none stations says =
    first stations (let same : item (string text) no_items ≡ says.0 = (let e = says.1 in cc) in let P : Items → Type 0 = λ items. ListsValues (SaysFormed IsLiteral) items stations in subst P (sym same) says.2)
  where
    first : (stations : List Text) → ListsValues (SaysFormed IsLiteral) (item (string text) no_items) stations → ⊥
    first [] h = h
    first (station ∷ stations) h = none (let same : text ≡ station = (let e = h.0.0 in cc) in subst IsLiteral (sym same) h.0.1)

prefix_parsed : parse_document (third_format ++ rule_text ++ codes "except = [\"CT9*\"]\n") ≡
    Some (member (codes "format") (integer (pos 3)) (member (codes "node") (array (item (table (node_members (rule_members (array (item (string (codes "CT9*")) no_items))))) no_items)) no_members))
unfolding toml_on_literals rule_members node_members
prefix_parsed = refl

pub prefix_excepted : ExceptionIsNoPrefix
prefix_excepted = λ plan w.
    let said = lone_exceptions _ (array (item (string (codes "CT9*")) no_items)) plan prefix_parsed w in
    no_literal_listed (codes "CT9*") (no_star_within (codes "CT9*") (3, lit< tt, refl)) said.0 said.1.0
