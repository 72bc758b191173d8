-- Small texts of nodes that listen nowhere, or are bound elsewhere.
use Rattle.std.proofs.Common.{◌≡◌, ℕ, ◌<◌, ◌≤◌, refl, sym, subst, pos, List, [], ◌∷◌, ◌++◌, codes, Option, Some, None, false, lit<, lit≤}
use Rattle.std.specs.Prelude.{All}
use Rattle.std.proofs.lemmas.List.Elements.{All-nil, All-cons}
use Rattle.std.proofs.lemmas.Option.{none-some}
use Rattle.toml.specs.Data.{Data, string, integer, boolean, array, table, Items, no_items, item, Members, no_members, member, get_member}
use Rattle.toml.specs.Parse.{parse_document}
use Rattle.toml.proofs.OnLiterals.{toml_on_literals}
use Rattle.dr_base.specs.Texts.{Text}
use Rattle.dr_plan_model.specs.declared.listens.Listens.{Listens}
use Rattle.dr_plan_model.specs.declared.listens.Listens.TheVariants.{Nowhere, At}
use Rattle.dr_plan_model.specs.Listening.{MayAccept}
use Rattle.dr_plan_model.specs.declared.plan.Format.{Format}
use Rattle.dr_plan_model.specs.declared.plan.Format.TheVariants.{Two, Three}
use Rattle.dr_plan_model.specs.Formed.{IsAddress, IsDigit, RuleFits}
use Rattle.dr_plan_text.specs.declared.words.AcceptText.{AcceptText}
use Rattle.dr_plan_text.specs.declared.words.NodeText.{NodeText}
use Rattle.dr_plan_text.specs.declared.words.PlanText.{PlanText}
use Rattle.dr_plan_text.specs.Fields.{SaysTable, ListsValues, IsListOf, GivenOr}
use Rattle.dr_plan_text.specs.Listening.{IsListens}
use Rattle.dr_plan_text.specs.Tables.{IsAcceptTable, IsNodeTable, IsRoot, Writes}
use Rattle.dr_plan_text.specs.Laws.{NowhereIsWritten, NowhereIsOfFormatThree, BindIsWritten, BindIsOfFormatThree, BindNeedsAddress, NowhereHasNoAddress, NowhereHasNoRow, second_format, third_format, nowhere_text, written_nowhere, bound_text, written_bound, accept_text}
use Rattle.dr_plan_text.proofs.OfValues.{SaysFormat-one}
use Rattle.dr_plan_text.proofs.OnePlan.{nodes_one}
use Rattle.dr_plan_text.proofs.SmallTexts.{RulesFit, FlowFits, ListensOf, address_is, the_tree, the_node, unaddressed}

other_address_is : IsAddress (codes "h:2")
other_address_is = record {
  host = codes "h";
  port = codes "2";
  parts = refl;
  some = λ e. cc;
  digits = All-cons IsDigit 50 [] (lit≤ tt, lit≤ tt) (All-nil IsDigit);
  few = (λ e. cc, lit≤ tt);
  small = lit≤ tt;
  printable = (let P : ℕ → Type 0 = λ byte. (33 ≤ byte) × (byte < 127) in
      All-cons P 104 (codes ":2") (lit≤ tt, lit< tt) (All-cons P 58 (codes "2") (lit≤ tt, lit< tt) (All-cons P 50 [] (lit≤ tt, lit< tt) (All-nil P))));
  short = lit≤ tt;
}

nowhere_members : Members
nowhere_members = member (codes "listens") (boolean false) (member (codes "name") (string (codes "A")) no_members)

nowhere_array : Data
nowhere_array = array (item (table nowhere_members) no_items)

nowhere_said : IsNodeTable nowhere_members written_nowhere
unfolding nowhere_members
nowhere_said = record {
  only = ((5, lit< tt, refl), ((0, lit< tt, refl), tt));
  name = refl;
  listens = (refl, refl, refl);
  max_pdu = refl;
  accept = refl;
  rule = refl;
  may_accept = refl;
}

nowhere_parsed : parse_document (third_format ++ nowhere_text) ≡ Some (member (codes "format") (integer (pos 3)) (member (codes "node") nowhere_array no_members))
unfolding toml_on_literals nowhere_members nowhere_array
nowhere_parsed = refl

nowhere_of_2_parsed : parse_document (second_format ++ nowhere_text) ≡ Some (member (codes "format") (integer (pos 2)) (member (codes "node") nowhere_array no_members))
unfolding toml_on_literals nowhere_members nowhere_array
nowhere_of_2_parsed = refl

-- the array says the node alone
nowhere_listed : IsListOf (SaysTable IsNodeTable) nowhere_array (written_nowhere ∷ [])
unfolding nowhere_array
nowhere_listed = (item (table nowhere_members) no_items, refl, ((nowhere_members, refl, nowhere_said), tt))

pub nowhere : NowhereIsWritten
unfolding lib.Utf8.encode
nowhere = (
  member (codes "format") (integer (pos 3)) (member (codes "node") nowhere_array no_members),
  ((third_format ++ nowhere_text, (refl, refl)), nowhere_parsed),
  record {
    only = ((0, lit< tt, refl), ((1, lit< tt, refl), tt));
    format = refl;
    node = nowhere_listed;
    flow = refl;
    fits = record {
      rules = All-cons (RulesFit Three) written_nowhere [] (All-nil (RuleFits Three)) (All-nil (RulesFit Three));
      flows = All-nil (FlowFits Three);
      listen = All-cons (ListensOf Three) written_nowhere [] tt (All-nil (ListensOf Three));
    };
  },
)

pub nowhere_of_2 : NowhereIsOfFormatThree
nowhere_of_2 = λ plan w.
    let root : Members = member (codes "format") (integer (pos 2)) (member (codes "node") nowhere_array no_members) in
    let P : Members → Type 0 = λ fields. IsRoot fields plan in
    let is : IsRoot root plan = subst P (the_tree (second_format ++ nowhere_text) root w.0 nowhere_of_2_parsed w.1.1) w.2 in
    let nodes : plan.nodes ≡ written_nowhere ∷ [] = nodes_one root plan.nodes (written_nowhere ∷ []) is.node nowhere_listed in
    let Q : Format → Type 0 = λ format. All (ListensOf format) plan.nodes in
    let R : List NodeText → Type 0 = λ all. All (ListensOf Two) all in
    let fits : All (ListensOf Two) (written_nowhere ∷ []) = subst R nodes (subst Q (SaysFormat-one (integer (pos 2)) plan.format Two is.format refl) is.fits.listen) in
    fits 0 written_nowhere (lit< tt)

bound_members : Members
bound_members = member (codes "address") (string (codes "h:1")) (member (codes "bind") (string (codes "h:2")) (member (codes "name") (string (codes "A")) no_members))

bound_array : Data
bound_array = array (item (table bound_members) no_items)

bound_said : IsNodeTable bound_members written_bound
unfolding bound_members
bound_said = record {
  only = ((1, lit< tt, refl), ((6, lit< tt, refl), ((0, lit< tt, refl), tt)));
  name = refl;
  listens = (refl, (refl, address_is), (refl, other_address_is));
  max_pdu = refl;
  accept = refl;
  rule = refl;
  may_accept = tt;
}

bound_parsed : parse_document (third_format ++ bound_text) ≡ Some (member (codes "format") (integer (pos 3)) (member (codes "node") bound_array no_members))
unfolding toml_on_literals bound_members bound_array
bound_parsed = refl

bound_of_2_parsed : parse_document (second_format ++ bound_text) ≡ Some (member (codes "format") (integer (pos 2)) (member (codes "node") bound_array no_members))
unfolding toml_on_literals bound_members bound_array
bound_of_2_parsed = refl

-- the array says the node alone
bound_listed : IsListOf (SaysTable IsNodeTable) bound_array (written_bound ∷ [])
unfolding bound_array
bound_listed = (item (table bound_members) no_items, refl, ((bound_members, refl, bound_said), tt))

pub bind : BindIsWritten
unfolding lib.Utf8.encode
bind = (
  member (codes "format") (integer (pos 3)) (member (codes "node") bound_array no_members),
  ((third_format ++ bound_text, (refl, refl)), bound_parsed),
  record {
    only = ((0, lit< tt, refl), ((1, lit< tt, refl), tt));
    format = refl;
    node = bound_listed;
    flow = refl;
    fits = record {
      rules = All-cons (RulesFit Three) written_bound [] (All-nil (RuleFits Three)) (All-nil (RulesFit Three));
      flows = All-nil (FlowFits Three);
      listen = All-cons (ListensOf Three) written_bound [] tt (All-nil (ListensOf Three));
    };
  },
)

pub bind_of_2 : BindIsOfFormatThree
bind_of_2 = λ plan w.
    let root : Members = member (codes "format") (integer (pos 2)) (member (codes "node") bound_array no_members) in
    let P : Members → Type 0 = λ fields. IsRoot fields plan in
    let is : IsRoot root plan = subst P (the_tree (second_format ++ bound_text) root w.0 bound_of_2_parsed w.1.1) w.2 in
    let nodes : plan.nodes ≡ written_bound ∷ [] = nodes_one root plan.nodes (written_bound ∷ []) is.node bound_listed in
    let Q : Format → Type 0 = λ format. All (ListensOf format) plan.nodes in
    let R : List NodeText → Type 0 = λ all. All (ListensOf Two) all in
    let fits : All (ListensOf Two) (written_bound ∷ []) = subst R nodes (subst Q (SaysFormat-one (integer (pos 2)) plan.format Two is.format refl) is.fits.listen) in
    let none : Some (codes "h:2") ≡ None = fits 0 written_bound (lit< tt) in
    none-some (codes "h:2") (sym none)

-- the one node of a text of format 3 that says one node, if it says any
pub lone : (text : Text) (fields : Members) (plan : PlanText)
    → parse_document text ≡ Some (member (codes "format") (integer (pos 3)) (member (codes "node") (array (item (table fields) no_items)) no_members))
    → Writes text plan → (node : NodeText) × IsNodeTable fields node
lone text fields plan parsed w =
    let same = the_tree text _ w.0 parsed w.1.1 in
    let P : Members → Type 0 = λ root. GivenOr [] (IsListOf (SaysTable IsNodeTable)) (get_member (codes "node") root) plan.nodes in
    the_node fields plan.nodes (subst P same w.2.node)

alone_members : Members
alone_members = member (codes "bind") (string (codes "h:2")) (member (codes "name") (string (codes "A")) no_members)

alone_parsed : parse_document (third_format ++ codes "[[node]]\nname = \"A\"\nbind = \"h:2\"\n") ≡
    Some (member (codes "format") (integer (pos 3)) (member (codes "node") (array (item (table alone_members) no_items)) no_members))
unfolding toml_on_literals alone_members
alone_parsed = refl

no_address_alone : (place : Listens) → IsListens false alone_members place → ⊥
unfolding alone_members
no_address_alone place is = unaddressed alone_members place refl refl is

pub bind_alone : BindNeedsAddress
bind_alone = λ plan w. let node = lone _ alone_members plan alone_parsed w in no_address_alone node.0.listens node.1.listens

both_members : Members
both_members = member (codes "address") (string (codes "h:1")) (member (codes "listens") (boolean false) (member (codes "name") (string (codes "A")) no_members))

both_parsed : parse_document (third_format ++ codes "[[node]]\nname = \"A\"\nlistens = false\naddress = \"h:1\"\n") ≡
    Some (member (codes "format") (integer (pos 3)) (member (codes "node") (array (item (table both_members) no_items)) no_members))
unfolding toml_on_literals both_members
both_parsed = refl

not_both : (place : Listens) → IsListens false both_members place → ⊥
unfolding both_members
not_both Nowhere is = none-some (string (codes "h:1")) (sym is.1)
not_both (At address bind) is = none-some (boolean false) (sym is.0)

pub nowhere_addressed : NowhereHasNoAddress
nowhere_addressed = λ plan w. let node = lone _ both_members plan both_parsed w in not_both node.0.listens node.1.listens

row_members : Members
row_members = member (codes "class") (string (codes "1")) (member (codes "from") (string (codes "*")) (member (codes "syntax") (array (item (string (codes "1")) no_items)) no_members))

accepting_members : Members
unfolding row_members
accepting_members = member (codes "accept") (array (item (table row_members) no_items)) (member (codes "listens") (boolean false) (member (codes "name") (string (codes "A")) no_members))

accepting_parsed : parse_document (third_format ++ nowhere_text ++ accept_text) ≡
    Some (member (codes "format") (integer (pos 3)) (member (codes "node") (array (item (table accepting_members) no_items)) no_members))
unfolding toml_on_literals row_members accepting_members
accepting_parsed = refl

-- an array with an item says no empty list
pub some_listed : {X : Type 0} (Says : Data → X → Type 0) (d : Data) (more : Items) (xs : List X) → IsListOf Says (array (item d more)) xs → xs ≡ [] → ⊥
some_listed Says d more [] says none =
    let e = says.1 in
    let same : item d more ≡ says.0 = cc in
    subst (λ (items : Items). ListsValues Says items []) (sym same) says.2
some_listed Says d more (x ∷ xs) says none = cc

nothing_accepted : (place : Listens) (rows : List AcceptText) → IsListens false accepting_members place → GivenOr [] (IsListOf (SaysTable IsAcceptTable)) (get_member (codes "accept") accepting_members) rows → MayAccept place rows → ⊥
unfolding accepting_members
nothing_accepted Nowhere rows is says may = some_listed (SaysTable IsAcceptTable) (table row_members) no_items rows says may
nothing_accepted (At address bind) rows is says may = none-some (boolean false) (sym is.0)

pub nowhere_accepts : NowhereHasNoRow
nowhere_accepts = λ plan w.
    let node = lone _ accepting_members plan accepting_parsed w in
    nothing_accepted node.0.listens node.0.accepts node.1.listens node.1.accept node.1.may_accept
