-- The forms of fields that a text's tables say.
use Rattle.std.proofs.Common.{◌≢◌, sym, subst, List, [], ◌∷◌, Option, Some, None, false}
use Rattle.std.specs.Prelude.{All, AllPairs}
use Rattle.std.proofs.lemmas.List.Elements.{All-nil, All-cons, All-head, All-tail}
use Rattle.toml.specs.Data.{Data, Items, no_items, item, Members}
use Rattle.dr_base.specs.Texts.{Text}
use Rattle.dr_route.specs.declared.rule.Rule.{Rule}
use Rattle.dr_route.specs.declared.rule.Pattern.TheVariants.{Any, Literal}
use Rattle.dr_route.specs.declared.rule.FieldPattern.{FieldPattern}
use Rattle.dr_route.specs.declared.rule.FieldPattern.TheVariants as field
use Rattle.dr_plan_model.specs.Naming.{literal_of, prefix_of}
use Rattle.std.specs.Prelude.{flat_map}
use Rattle.dr_plan_model.specs.declared.plan.Values.TheVariants as values
use Rattle.dr_plan_model.specs.Formed.{IsClass, IsLiteral, IsPrefix, IsAddress, HasAddresses, HasForm, HasFieldForm, AreValues}
use Rattle.dr_plan_model.specs.Listening.{MayAccept}
use Rattle.dr_plan_model.specs.declared.listens.Listens.{Listens}
use Rattle.dr_plan_model.specs.declared.listens.Listens.TheVariants.{Nowhere, At}
use Rattle.dr_plan_text.specs.Listening.{IsListens}
use Rattle.std.proofs.lemmas.Option.{none-some}
use Rattle.dr_plan_text.specs.declared.words.AcceptText.{AcceptText}
use Rattle.dr_plan_text.specs.declared.words.NodeText.{NodeText}
use Rattle.dr_plan_text.specs.declared.words.FlowText.{FlowText}
use Rattle.dr_plan_text.specs.declared.words.PlanText.{PlanText}
use Rattle.dr_plan_text.specs.Fields.{SaysFormed, SaysSome, SaysPattern, SaysNamed, SaysField, SaysExceptions, SaysValues, SaysTable, SaysTextsOnce, ListsValues, IsListOf, IsSomeOf, Given, GivenOr}
use Rattle.dr_plan_text.specs.Tables.{IsAcceptTable, IsRuleTable, IsNodeTable, IsFlowTable, IsRoot}

pub record RowForm (row : AcceptText) : Type 0 where
  pub class : IsClass row.class
  pub some : row.syntaxes ≢ []
  pub apart : AllPairs (λ s t. s ≢ t) row.syntaxes

pub record RuleForm (rule : Rule) : Type 0 where
  pub class : HasForm IsClass rule.class
  pub modality : HasFieldForm rule.modality
  pub station : HasFieldForm rule.station
  pub except : All IsLiteral rule.except

pub record NodeForm (node : NodeText) : Type 0 where
  pub addresses : HasAddresses node.listens
  pub may_accept : MayAccept node.listens node.accepts
  pub accepts : All RowForm node.accepts
  pub rules : All RuleForm node.rules

pub record FlowForm (flow : FlowText) : Type 0 where
  pub classes : (flow.classes ≢ []) × All IsClass flow.classes
  pub syntaxes : flow.syntaxes ≢ []
  pub modalities : AreValues flow.modalities
  pub stations : AreValues flow.stations

-- what a value says has the form
abbrev SaysFormedAs : {X : Type 0} → (Data → X → Type 0) → (X → Type 0) → Type 0
SaysFormedAs {X} Says P = (d : Data) (x : X) → Says d x → P x

each_listed : {X : Type 0} (Says : Data → X → Type 0) (P : X → Type 0) → SaysFormedAs Says P → (items : Items) (xs : List X) → ListsValues Says items xs → All P xs
each_listed Says P formed no_items [] h = All-nil P
each_listed Says P formed no_items (x ∷ xs) h = absurd h
each_listed Says P formed (item d items) [] h = absurd h
each_listed Says P formed (item d items) (x ∷ xs) h = All-cons P x xs (formed d x h.0) (each_listed Says P formed items xs h.1)

list_form : {X : Type 0} (Says : Data → X → Type 0) (P : X → Type 0) → SaysFormedAs Says P → SaysFormedAs (IsListOf Says) (All P)
list_form Says P formed d xs h = each_listed Says P formed h.0 xs h.2

given : {X : Type 0} (Says : Data → X → Type 0) (P : X → Type 0) → SaysFormedAs Says P → (field : Option Data) (x : X) → Given Says field x → P x
given Says P formed None x h = absurd h
given Says P formed (Some d) x h = formed d x h

given_or : {X : Type 0} (default : X) (Says : Data → X → Type 0) (P : X → Type 0) → P default → SaysFormedAs Says P → (field : Option Data) (x : X) → GivenOr default Says field x → P x
given_or default Says P is formed None x h = rw h is
given_or default Says P is formed (Some d) x h = formed d x h

pattern_form : (IsFormed : Text → Type 0) → SaysFormedAs (SaysPattern (SaysFormed IsFormed)) (HasForm IsFormed)
pattern_form IsFormed d Any h = tt
pattern_form IsFormed d (Literal literal) h = h.1.1

named_form : SaysFormedAs SaysNamed HasFieldForm
named_form d field.Any h = absurd h
named_form d (field.Literal literal) h = h.1
named_form d (field.Prefix prefix) h = h.1

field_form : SaysFormedAs SaysField HasFieldForm
field_form d field.Any h = tt
field_form d (field.Literal literal) h = h.1
field_form d (field.Prefix prefix) h = h.1

-- the literals of patterns in their form are literals, and their prefixes prefixes
literals_form : (patterns : List FieldPattern) → All HasFieldForm patterns → All IsLiteral (flat_map literal_of patterns)
literals_form [] all = All-nil IsLiteral
literals_form (field.Any ∷ patterns) all = literals_form patterns (All-tail HasFieldForm field.Any patterns all)
literals_form (field.Literal literal ∷ patterns) all =
    All-cons IsLiteral literal (flat_map literal_of patterns) (All-head HasFieldForm (field.Literal literal) patterns all)
    (literals_form patterns (All-tail HasFieldForm (field.Literal literal) patterns all))
literals_form (field.Prefix prefix ∷ patterns) all = literals_form patterns (All-tail HasFieldForm (field.Prefix prefix) patterns all)

prefixes_form : (patterns : List FieldPattern) → All HasFieldForm patterns → All IsPrefix (flat_map prefix_of patterns)
prefixes_form [] all = All-nil IsPrefix
prefixes_form (field.Any ∷ patterns) all = prefixes_form patterns (All-tail HasFieldForm field.Any patterns all)
prefixes_form (field.Literal literal ∷ patterns) all = prefixes_form patterns (All-tail HasFieldForm (field.Literal literal) patterns all)
prefixes_form (field.Prefix prefix ∷ patterns) all =
    All-cons IsPrefix prefix (flat_map prefix_of patterns) (All-head HasFieldForm (field.Prefix prefix) patterns all)
    (prefixes_form patterns (All-tail HasFieldForm (field.Prefix prefix) patterns all))

values_form : SaysFormedAs SaysValues AreValues
values_form d values.Any h = tt
values_form d (values.Listed own) h =
    let each = list_form SaysNamed HasFieldForm named_form d h.0 h.1 in
    (subst (λ (texts : List Text). All IsLiteral texts) (sym h.2) (literals_form h.0 each), subst (λ (texts : List Text). All IsPrefix texts) (sym h.3) (prefixes_form h.0 each))

exceptions_form : SaysFormedAs SaysExceptions (All IsLiteral)
exceptions_form d stations h = list_form (SaysFormed IsLiteral) IsLiteral (λ d station h. h.1) d stations h.0

row_form : SaysFormedAs (SaysTable IsAcceptTable) RowForm
row_form d row h = record {
  class = given (SaysFormed IsClass) IsClass (λ d x h. h.1) _ row.class h.2.class;
  some = given SaysTextsOnce (λ xs. xs ≢ []) (λ d x h. h.0.1) _ row.syntaxes h.2.syntax;
  apart = given SaysTextsOnce (λ xs. AllPairs (λ s t. s ≢ t) xs) (λ d x h. h.1) _ row.syntaxes h.2.syntax;
}

rule_form : SaysFormedAs (SaysTable IsRuleTable) RuleForm
rule_form d rule h = record {
  class = given_or Any (SaysPattern (SaysFormed IsClass)) (HasForm IsClass) tt (pattern_form IsClass) _ rule.class h.2.class;
  modality = given_or field.Any SaysField HasFieldForm tt field_form _ rule.modality h.2.modality;
  station = given_or field.Any SaysField HasFieldForm tt field_form _ rule.station h.2.station;
  except = given_or [] SaysExceptions (All IsLiteral) (All-nil IsLiteral) exceptions_form _ rule.except h.2.except;
}

-- the address to which a node binds is one, where it is given
bind_form : (address : Text) (bind : Option Text) (field : Option Data) → IsAddress address → GivenOr None (SaysSome (SaysFormed IsAddress)) field bind → HasAddresses (At address bind)
bind_form address None field is h = is
bind_form address (Some own) None is h = absurd (none-some own (sym h))
bind_form address (Some own) (Some d) is h = (is, h.1)

listens_form : (fields : Members) (place : Listens) → IsListens false fields place → HasAddresses place
listens_form fields Nowhere h = tt
listens_form fields (At address bind) h = bind_form address bind _ (given (SaysFormed IsAddress) IsAddress (λ d x g. g.1) _ address h.1) h.2

node_form : SaysFormedAs (SaysTable IsNodeTable) NodeForm
node_form d node h = record {
  addresses = listens_form h.0 node.listens h.2.listens;
  may_accept = h.2.may_accept;
  accepts = given_or [] (IsListOf (SaysTable IsAcceptTable)) (All RowForm) (All-nil RowForm) (list_form (SaysTable IsAcceptTable) RowForm row_form) _ node.accepts h.2.accept;
  rules = given_or [] (IsListOf (SaysTable IsRuleTable)) (All RuleForm) (All-nil RuleForm) (list_form (SaysTable IsRuleTable) RuleForm rule_form) _ node.rules h.2.rule;
}

flow_form : SaysFormedAs (SaysTable IsFlowTable) FlowForm
flow_form d flow h = record {
  classes = given (IsSomeOf (SaysFormed IsClass)) (λ xs. (xs ≢ []) × All IsClass xs) (λ d xs h. (h.1, list_form (SaysFormed IsClass) IsClass (λ d x h. h.1) d xs h.0)) _ flow.classes h.2.class;
  syntaxes = given (IsSomeOf _) (λ xs. xs ≢ []) (λ d xs h. h.1) _ flow.syntaxes h.2.syntax;
  modalities = given SaysValues AreValues values_form _ flow.modalities h.2.modality;
  stations = given SaysValues AreValues values_form _ flow.stations h.2.station;
}

pub nodes_form : (root : Members) (plan : PlanText) → IsRoot root plan → All NodeForm plan.nodes
nodes_form root plan is = given_or [] (IsListOf (SaysTable IsNodeTable)) (All NodeForm) (All-nil NodeForm) (list_form (SaysTable IsNodeTable) NodeForm node_form) _ plan.nodes is.node

pub flows_form : (root : Members) (plan : PlanText) → IsRoot root plan → All FlowForm plan.flows
flows_form root plan is = given_or [] (IsListOf (SaysTable IsFlowTable)) (All FlowForm) (All-nil FlowForm) (list_form (SaysTable IsFlowTable) FlowForm flow_form) _ plan.flows is.flow
