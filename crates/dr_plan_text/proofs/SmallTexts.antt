-- Small texts, read by computation.
use Rattle.std.proofs.Common.{◌≡◌, ℕ, ◌<◌, ◌≤◌, refl, sym, ◌∙◌, ap, subst, pos, inl, inr, List, [], ◌∷◌, codes, Option, Some, None, false, get_or, Contains, arith, lit<, lit≤}
use Rattle.std.specs.Prelude.{All}
use Rattle.std.proofs.lemmas.Option.{none-some, same_Some}
use Rattle.toml.specs.Data.{Data, string, integer, boolean, array, table, Items, no_items, item, Members, no_members, member, get_member}
use Rattle.toml.specs.Parse.{parse_document}
use Rattle.toml.proofs.OnLiterals.{toml_on_literals}
use Rattle.dr_base.specs.Texts.{Text}
use Rattle.dr_route.specs.declared.rule.Rule.{Rule}
use Rattle.dr_plan_model.specs.declared.plan.Format.{Format}
use Rattle.dr_plan_model.specs.declared.plan.Format.TheVariants.{One}
use Rattle.dr_plan_model.specs.Formed.{IsAddress, IsDigit, RuleFits, ValuesFit}
use Rattle.std.specs.Str.Parse.{digits_value}
use Rattle.std.proofs.lemmas.List.Elements.{All-nil, All-cons}
use Rattle.dr_plan_model.proofs.Gathered.{Contains-cons_cases, only_one}
use Rattle.dr_plan_text.specs.declared.words.NodeText.{NodeText}
use Rattle.dr_plan_text.specs.declared.words.FlowText.{FlowText}
use Rattle.dr_plan_text.specs.declared.words.PlanText.{PlanText}
use Rattle.dr_plan_model.specs.Listening.{ListensFits}
use Rattle.dr_plan_model.specs.declared.listens.Listens.{Listens}
use Rattle.dr_plan_model.specs.declared.listens.Listens.TheVariants.{Nowhere, At}
use Rattle.dr_plan_text.specs.Listening.{IsListens}
use Rattle.dr_plan_text.specs.Fields.{SaysFormed, SaysTable, ListsValues, IsListOf, Given, GivenOr, HasOnly}
use Rattle.dr_plan_text.proofs.OfValues.{no_format}
use Rattle.dr_plan_text.proofs.Refusals.{nothing_parsed}
use Rattle.dr_plan_text.proofs.Ports.{small_port, no_colon}
use Rattle.dr_plan_text.specs.Tables.{IsNodeTable, IsFormat, Writes, root_keys}
use Rattle.dr_plan_text.specs.Laws.{EmptyTextWritesNothing, NodeIsWritten, KeyIsUnknown, FormatIsOther, AddressIsMissing, PortIsTooHigh, node_text, written_node_text}

-- a node's rules fit the format
abbrev pub RulesFit : Format → NodeText → Type 0
RulesFit format node = All (RuleFits format) node.rules

-- a flow does
abbrev pub FlowFits : Format → FlowText → Type 0
FlowFits format flow = ValuesFit format flow.modalities flow.stations

-- the format has how the node listens
abbrev pub ListensOf : Format → NodeText → Type 0
ListensOf format node = ListensFits format node.listens

pub empty_text : EmptyTextWritesNothing
empty_text = (no_members, (([], (refl, refl)), nothing_parsed), record { only = tt; format = refl; node = refl; flow = refl; fits = record { rules = All-nil (RulesFit One); flows = All-nil (FlowFits One); listen = All-nil (ListensOf One) } })

node_members : Members
node_members = member (codes "address") (string (codes "h:1")) (member (codes "name") (string (codes "A")) no_members)

node_parsed : parse_document node_text ≡ Some (member (codes "node") (array (item (table node_members) no_items)) no_members)
unfolding toml_on_literals node_members
node_parsed = refl

pub address_is : IsAddress (codes "h:1")
address_is = record {
  host = codes "h";
  port = codes "1";
  parts = refl;
  some = λ e. cc;
  digits = All-cons IsDigit 49 [] (lit≤ tt, lit≤ tt) (All-nil IsDigit);
  few = (λ e. cc, lit≤ tt);
  small = lit≤ tt;
  printable = (let P : ℕ → Type 0 = λ byte. (33 ≤ byte) × (byte < 127) in
      All-cons P 104 (codes ":1") (lit≤ tt, lit< tt) (All-cons P 58 (codes "1") (lit≤ tt, lit< tt) (All-cons P 49 [] (lit≤ tt, lit< tt) (All-nil P))));
  short = lit≤ tt;
}

node_said : IsNodeTable node_members written_node_text
unfolding node_members
node_said = record {
  only = ((1, lit< tt, refl), ((0, lit< tt, refl), tt));
  name = refl;
  listens = (refl, (refl, address_is), refl);
  max_pdu = refl;
  accept = refl;
  rule = refl;
  may_accept = tt;
}

pub one_node : NodeIsWritten
unfolding lib.Utf8.encode
one_node = (
  member (codes "node") (array (item (table node_members) no_items)) no_members,
  ((node_text, (refl, refl)), node_parsed),
  record {
    only = ((1, lit< tt, refl), tt);
    format = refl;
    node = (item (table node_members) no_items, refl, ((node_members, refl, node_said), tt));
    flow = refl;
    fits = record { rules = All-cons (RulesFit One) written_node_text [] (All-nil (RuleFits One)) (All-nil (RulesFit One)); flows = All-nil (FlowFits One); listen = All-cons (ListensOf One) written_node_text [] refl (All-nil (ListensOf One)) };
  },
)

-- the tree of a text that is parsed by computation
pub the_tree : (text : Text) (known root : Members) → parse_document text ≡ Some known → parse_document text ≡ Some root → root ≡ known
the_tree text known root a b = same_Some _ _ (sym b ∙ a)

colour_parsed : parse_document (codes "colour = 1") ≡ Some (member (codes "colour") (integer (pos 1)) no_members)
unfolding toml_on_literals
colour_parsed = refl

first_byte : (x y : Text) (a b : ℕ) → get_or x 0 0 ≡ a → get_or y 0 0 ≡ b → (a ≡ b → ⊥) → x ≡ y → ⊥
first_byte x y a b at bt apart same = apart (sym at ∙ (ap (λ (t : Text). get_or t 0 0) same ∙ bt))

no_colour : Contains root_keys (codes "colour") → ⊥
no_colour among = elim (Contains-cons_cases (codes "format") (codes "node" ∷ codes "flow" ∷ []) (codes "colour") among) [
  | inl same ↦ first_byte (codes "format") (codes "colour") 102 99 refl refl (λ e. omega arith) same
  | inr later ↦ elim (Contains-cons_cases (codes "node") (codes "flow" ∷ []) (codes "colour") later) [
    | inl same ↦ first_byte (codes "node") (codes "colour") 110 99 refl refl (λ e. omega arith) same
    | inr last ↦ first_byte (codes "flow") (codes "colour") 102 99 refl refl (λ e. omega arith) (only_one (codes "flow") (codes "colour") last)
  ]
]

pub unknown_key : KeyIsUnknown
unknown_key = λ plan w.
    let same = the_tree (codes "colour = 1") _ w.0 colour_parsed w.1.1 in
    let P : Members → Type 0 = λ root. HasOnly root_keys root in
    no_colour (subst P same w.2.only).0

format_parsed : parse_document (codes "format = 4") ≡ Some (member (codes "format") (integer (pos 4)) no_members)
unfolding toml_on_literals
format_parsed = refl

apart_numbers : (x y : ℕ) → (x ≡ y → ⊥) → integer (pos x) ≡ integer (pos y) → ⊥
apart_numbers x y apart e = let same : pos x ≡ pos y = cc in let numbers : x ≡ y = cc in apart numbers

pub other_format : FormatIsOther
other_format = λ plan w.
    let same = the_tree (codes "format = 4") _ w.0 format_parsed w.1.1 in
    let P : Members → Type 0 = λ root. IsFormat (get_member (codes "format") root) plan.format in
    no_format (integer (pos 4)) (apart_numbers 4 1 (λ e. omega arith)) (apart_numbers 4 2 (λ e. omega arith)) (apart_numbers 4 3 (λ e. omega arith)) plan.format (subst P same w.2.format)

-- the one node of a text that says one node, if it says any
pub the_node : (fields : Members) (nodes : List NodeText) → IsListOf (SaysTable IsNodeTable) (array (item (table fields) no_items)) nodes → (node : NodeText) × IsNodeTable fields node
the_node fields nodes says = first nodes (let same : item (table fields) no_items ≡ says.0 = (let e = says.1 in cc) in let P : Items → Type 0 = λ items. ListsValues (SaysTable IsNodeTable) items nodes in subst P (sym same) says.2)
  where
    first : (nodes : List NodeText) → ListsValues (SaysTable IsNodeTable) (item (table fields) no_items) nodes → (node : NodeText) × IsNodeTable fields node
    first [] h = absurd h
    first (node ∷ nodes) h = (node, (let same : fields ≡ h.0.0 = (let e = h.0.1 in cc) in rw same h.0.2))

lone_node : (text : Text) (fields : Members) (plan : PlanText) → parse_document text ≡ Some (member (codes "node") (array (item (table fields) no_items)) no_members) → Writes text plan →
    (node : NodeText) × IsNodeTable fields node
lone_node text fields plan parsed w =
    let same = the_tree text _ w.0 parsed w.1.1 in
    let P : Members → Type 0 = λ root. GivenOr [] (IsListOf (SaysTable IsNodeTable)) (get_member (codes "node") root) plan.nodes in
    the_node fields plan.nodes (subst P same w.2.node)

name_parsed : parse_document (codes "[[node]]\nname = \"A\"\n") ≡ Some (member (codes "node") (array (item (table (member (codes "name") (string (codes "A")) no_members)) no_items)) no_members)
unfolding toml_on_literals
name_parsed = refl

-- where no address is given, and nothing says that the node only calls
pub unaddressed : (fields : Members) (place : Listens) → get_member (codes "listens") fields ≡ None → get_member (codes "address") fields ≡ None → IsListens false fields place → ⊥
unaddressed fields Nowhere silent none is = none-some (boolean false) (sym silent ∙ is.0)
unaddressed fields (At address bind) silent none is = subst (λ (d : Option Data). Given (SaysFormed IsAddress) d address) none is.1

pub no_address : AddressIsMissing
no_address = λ plan w. let node = lone_node _ _ plan name_parsed w in unaddressed (member (codes "name") (string (codes "A")) no_members) node.0.listens refl refl node.1.listens

high_fields : Members
high_fields = member (codes "address") (string (codes "h:65536")) (member (codes "name") (string (codes "A")) no_members)

high_parsed : parse_document (codes "[[node]]\nname = \"A\"\naddress = \"h:65536\"\n") ≡ Some (member (codes "node") (array (item (table high_fields) no_items)) no_members)
unfolding toml_on_literals high_fields
high_parsed = refl

high_address : (place : Listens) → IsListens false high_fields place → (address : Text) × (string (codes "h:65536") ≡ string address) × IsAddress address
unfolding high_fields
high_address Nowhere is = absurd (none-some (boolean false) is.0)
high_address (At address bind) is = (address, is.1.0, is.1.1)

five_digits : All IsDigit (codes "65536")
five_digits = All-cons IsDigit 54 (codes "5536") (lit≤ tt, lit≤ tt) (All-cons IsDigit 53 (codes "536") (lit≤ tt, lit≤ tt) (All-cons IsDigit 53 (codes "36") (lit≤ tt, lit≤ tt)
    (All-cons IsDigit 51 (codes "6") (lit≤ tt, lit≤ tt) (All-cons IsDigit 54 [] (lit≤ tt, lit≤ tt) (All-nil IsDigit)))))

pub high_port : PortIsTooHigh
high_port = λ plan w.
    let node = lone_node _ high_fields plan high_parsed w in
    let address = high_address node.0.listens node.1.listens in
    let e = address.1 in
    let same : codes "h:65536" ≡ address.0 = cc in
    let is : IsAddress (codes "h:65536") = subst IsAddress (sym same) address.2 in
    let small : digits_value 10 (codes "65536") ≤ 65535 = small_port (codes "h:65536") (codes "h") (codes "65536") (refl, no_colon (codes "65536") five_digits) is in
    omega arith
