-- Keys of one cell of a plan are sent, kept and walked alike; and what well-formed plans exclude.
use Rattle.std.proofs.Common.{◌≡◌, ◌≢◌, ℕ, ◌<◌, inl, inr, refl, sym, ◌∙◌, ap, subst, List, [], ◌∷◌, ◌++◌, length, get_or, Contains, arith}
use Rattle.std.specs.Prelude.{◌↔◌, All, flat_map}
use Rattle.std.proofs.lemmas.Bool.{cases_lt, cases_eq}
use Rattle.std.proofs.lemmas.List.{get_or_default, append-nil}
use Rattle.std.proofs.lemmas.List.Elements.{Contains-append_left, Contains-append_right, Contains-append_cases, Contains-get_or, All-contains, All-head, All-tail}
use Rattle.dr_base.specs.Texts.{Text}
use Rattle.dr_base.specs.declared.syntax.Syntax.{Syntax}
use Rattle.dr_route.specs.Routes.{local, SendsBy, KeepsBy}
use Rattle.dr_route.specs.Cells.{InField}
use Rattle.dr_route.specs.Laws.{IsKnown, IsKnownRule, ArePlain, ArePlainValues, key_of}
use Rattle.dr_route.specs.declared.key.Key.{Key}
use Rattle.dr_route.specs.declared.rule.Rule.{Rule}
use Rattle.dr_route.specs.declared.rule.FieldPattern.{FieldPattern}
use Rattle.dr_route.specs.declared.rule.FieldPattern.TheVariants as pattern
use Rattle.dr_route.specs.declared.cell.FieldValues.{FieldValues}
use Rattle.dr_route.specs.declared.cell.OwnedField.{OwnedField}
use Rattle.dr_route.specs.declared.cell.OwnedField.TheVariants as part
use Rattle.dr_route.specs.declared.cell.OwnedCell.{OwnedCell}
use Rattle.dr_route.proofs.Agreement.{sends_agree, keeps_agree, part_has_value, prefix_agrees}
use Rattle.dr_plan_model.specs.declared.plan.Node.{Node}
use Rattle.dr_plan_model.specs.declared.plan.Flow.{Flow}
use Rattle.dr_plan_model.specs.declared.plan.Values.{Values}
use Rattle.dr_plan_model.specs.declared.plan.Values.TheVariants as values
use Rattle.dr_plan_model.specs.declared.literals.Attribute.{Attribute}
use Rattle.dr_plan_model.specs.declared.plan.Format.{Format}
use Rattle.dr_plan_model.specs.declared.plan.Format.TheVariants.{One, Two, Three}
use Rattle.dr_plan_model.specs.declared.literals.Attribute.TheVariants.{Modality, ModalityPrefix, Station, StationPrefix}
use Rattle.dr_plan_model.specs.Networks.{Network}
use Rattle.dr_plan_model.specs.Formed.{IsLiteral, IsPrefix, HasFieldForm, AreValues, ModalitiesFit, ExceptionsFit, RuleFits, ValuesFit, IsInFormat, IsKnownName, IsWellFormedNode, IsWellFormedFlow, IsRuleOf}
use Rattle.dr_plan_model.specs.Naming.{literal_of, prefix_of, listed_literals, listed_prefixes, named_by_pattern, named_by_except, named_by_rule, named_by_flow, named_by_rules, named_by_flows}
use Rattle.dr_plan_model.specs.Plans.{IsWellFormed, IsNode, named_in, modalities_of, stations_of, literals_of, LiesIn}
use Rattle.dr_plan_model.specs.Walks.{IsListed, FlowBrings, Flows, Sends, Keeps, IsWalk, IsEntry, IsReached}
use Rattle.dr_plan_model.specs.Laws.{IsCellOf, InPlainField, KeepsItsParts}
use Rattle.dr_plan_model.proofs.Gathered.{Contains-flat_map, Contains-here, Contains-there, Contains-flat_map_from, nothing_in_nil, only_one}

-- ---- what each element has, all have
pub all_from_each : {X : Type 0} (P : X → Type 0) (xs : List X) → ((x : X) → Contains xs x → P x) → All P xs
all_from_each P xs each = λ k d high. each (get_or xs k d) (Contains-get_or xs k d high)

-- ---- two nodes of one name
pub one_node : (plan : Network) → IsWellFormed plan → (name : Text) (a b : Node) → IsNode plan name a → IsNode plan name b → a ≡ b
one_node plan formed name a b is_a is_b =
    let i : ℕ = is_a.0.0 in
    let j : ℕ = is_b.0.0 in
    let at_i : get_or plan.nodes i a ≡ a = is_a.0.2 in
    let at_j : get_or plan.nodes j b ≡ b = is_b.0.2 in
    let in_i : i < length plan.nodes = is_a.0.1 in
    let in_j : j < length plan.nodes = is_b.0.1 in
    let also_j : get_or plan.nodes j a ≡ b = get_or_default plan.nodes j a b in_j ∙ at_j in
    let names : a.name ≡ b.name = is_a.1 ∙ sym is_b.1 in
    elim (cases_lt i j) [
      | inl before ↦ absurd (formed.apart i j a before in_j (ap (λ (n : Node). n.name) at_i ∙ (names ∙ ap (λ (n : Node). n.name) (sym also_j))))
      | inr not_before ↦ elim (cases_eq i j) [
        | inl same ↦ sym at_i ∙ (ap (λ (k : ℕ). get_or plan.nodes k a) same ∙ also_j)
        | inr other ↦
            let after : j < i = omega arith in
            absurd (formed.apart j i a after in_i (ap (λ (n : Node). n.name) also_j ∙ (sym names ∙ ap (λ (n : Node). n.name) (sym at_i))))
      ]
    ]

-- ---- the literals of rules and flows are the plan's
known_pattern : (values : FieldValues) (pattern : FieldPattern) → ((t : Text) → Contains (literal_of pattern) t → Contains values.literals t) →
    ((t : Text) → Contains (prefix_of pattern) t → Contains values.prefixes t) → IsKnown values pattern
known_pattern values pattern.Any all each = tt
known_pattern values (pattern.Literal literal) all each = all literal (Contains-here literal [])
known_pattern values (pattern.Prefix prefix) all each = each prefix (Contains-here prefix [])

rule_names : (plan : Network) (attribute : Attribute) (node : Node) (rule : Rule) (t : Text) → Contains plan.nodes node → Contains node.rules rule →
    Contains (named_by_rule attribute rule) t → Contains (named_in attribute plan) t
rule_names plan attribute node rule t has_node has_rule has_text =
    Contains-append_left _ _ t
    (Contains-flat_map (λ (n : Node). named_by_rules attribute n.rules) plan.nodes node t has_node
    (Contains-flat_map (λ (r : Rule). named_by_rule attribute r) node.rules rule t has_rule has_text))

pattern_names : (plan : Network) (attribute : Attribute) (node : Node) (rule : Rule) (t : Text) → Contains plan.nodes node → Contains node.rules rule →
    Contains (named_by_pattern attribute rule) t → Contains (named_in attribute plan) t
pattern_names plan attribute node rule t has_node has_rule has_text =
    rule_names plan attribute node rule t has_node has_rule (Contains-append_left (named_by_pattern attribute rule) (named_by_except attribute rule) t has_text)

pub exceptions_are_named : (plan : Network) (node : Node) (rule : Rule) (text : Text) → Contains plan.nodes node → Contains node.rules rule →
    Contains rule.except text → Contains (stations_of plan).literals text
exceptions_are_named plan node rule text has_node has_rule there =
    rule_names plan Station node rule text has_node has_rule (Contains-append_right (literal_of rule.station) rule.except text there)

pub known_rules : (plan : Network) (node : Node) → Contains plan.nodes node → All (IsKnownRule (literals_of plan)) node.rules
known_rules plan node has_node = all_from_each (IsKnownRule (literals_of plan)) node.rules (λ rule has_rule. (
  known_pattern (literals_of plan).modalities rule.modality (λ t. pattern_names plan Modality node rule t has_node has_rule) (λ t. pattern_names plan ModalityPrefix node rule t has_node has_rule),
  known_pattern (literals_of plan).stations rule.station (λ t. pattern_names plan Station node rule t has_node has_rule) (λ t. pattern_names plan StationPrefix node rule t has_node has_rule),
  all_from_each (Contains (literals_of plan).stations.literals) rule.except (λ t there. exceptions_are_named plan node rule t has_node has_rule there),
))

pub flow_names : (plan : Network) (attribute : Attribute) (flow : Flow) (t : Text) → Contains plan.flows flow → Contains (named_by_flow attribute flow) t → Contains (named_in attribute plan) t
flow_names plan attribute flow t has_flow has_text =
    Contains-append_right _ _ t (Contains-flat_map (λ (f : Flow). named_by_flow attribute f) plan.flows flow t has_flow has_text)

-- ---- keys of one cell
listed_alike : (all : FieldValues) (lot : OwnedField) (listed : Values) (v w : Text) → ((t : Text) → Contains (listed_literals listed) t → Contains all.literals t) →
    ((t : Text) → Contains (listed_prefixes listed) t → Contains all.prefixes t) →
    InField all lot v → InField all lot w → IsListed listed v → IsListed listed w
listed_alike all lot values.Any v w known each a b h = tt
listed_alike all lot (values.Listed own) v w known each a b (inl one) = inl (same_literal lot a b one) where
  same_literal : (one : OwnedField) → InField all one v → InField all one w → Contains own.literals v → Contains own.literals w
  same_literal (part.Literal literal) a b one = let P : Text → Type 0 = λ t. Contains own.literals t in subst P (sym a.1 ∙ b.1) one
  same_literal (part.Prefix prefix) a b one = absurd (a.0 (known v one))
  same_literal part.Rest a b one = absurd (a.0 (known v one))
listed_alike all lot (values.Listed own) v w known each a b (inr begun) =
    inr (begun.0, begun.1, prefix_agrees all lot begun.0 v w (each begun.0 begun.1) a b begun.2)

pub fits_alike : (plan : Network) (cell : OwnedCell) (k l : Key) → LiesIn plan cell k → LiesIn plan cell l → (flow : Flow) → Contains plan.flows flow → FlowBrings flow k → FlowBrings flow l
fits_alike plan cell k l a b flow has_flow fit = record {
  class = let P : Text → Type 0 = λ t. Contains flow.classes t in subst P (sym a.class ∙ b.class) fit.class;
  syntax = let P : Syntax → Type 0 = λ t. Contains flow.syntaxes t in subst P (sym a.syntax ∙ b.syntax) fit.syntax;
  modality = listed_alike (literals_of plan).modalities cell.modality flow.modalities k.modality l.modality (λ t. flow_names plan Modality flow t has_flow) (λ t. flow_names plan ModalityPrefix flow t has_flow)
      a.modality b.modality fit.modality;
  station = listed_alike (literals_of plan).stations cell.station flow.stations k.station l.station (λ t. flow_names plan Station flow t has_flow) (λ t. flow_names plan StationPrefix flow t has_flow)
      a.station b.station fit.station;
}

pub flows_alike : (plan : Network) (cell : OwnedCell) (k l : Key) → LiesIn plan cell k → LiesIn plan cell l → (site to : Text) → Flows plan site k to → Flows plan site l to
flows_alike plan cell k l a b site to f = (f.0, f.1, f.2, f.3, fits_alike plan cell k l a b f.0 f.1 f.4)

pub send_alike : (plan : Network) (cell : OwnedCell) (k l : Key) → LiesIn plan cell k → LiesIn plan cell l → (name caller to : Text) → Sends plan name caller k to → Sends plan name caller l to
send_alike plan cell k l a b name caller to (inl entered) = inl (entered.0, flows_alike plan cell k l a b name to entered.1)
send_alike plan cell k l a b name caller to (inr ruled) =
    inr (ruled.0, ruled.1, sends_agree (literals_of plan) cell k l a b ruled.0.rules (known_rules plan ruled.0 ruled.1.0) caller to ruled.2)

pub keep_alike : (plan : Network) (cell : OwnedCell) (k l : Key) → LiesIn plan cell k → LiesIn plan cell l → (name caller : Text) → Keeps plan name caller k → Keeps plan name caller l
keep_alike plan cell k l a b name caller kept =
    (kept.0, kept.1, keeps_agree (literals_of plan) cell k l a b kept.0.rules (known_rules plan kept.0 kept.1.0) caller kept.2)

pub enter_alike : (plan : Network) (cell : OwnedCell) (k l : Key) → LiesIn plan cell k → LiesIn plan cell l → (site : Text) → IsEntry plan site k → IsEntry plan site l
enter_alike plan cell k l a b site entry = (entry.0, flows_alike plan cell k l a b site entry.0 entry.1)

pub walk_alike : (plan : Network) (cell : OwnedCell) (k l : Key) → LiesIn plan cell k → LiesIn plan cell l →
    (caller name : Text) (over : List Text) → IsWalk plan k caller name over → IsWalk plan l caller name over
walk_alike plan cell k l a b caller name [] walk = tt
walk_alike plan cell k l a b caller name (next ∷ rest) walk = (send_alike plan cell k l a b name caller next walk.0, walk_alike plan cell k l a b name next rest walk.1)

pub reach_alike : (plan : Network) (cell : OwnedCell) (k l : Key) → LiesIn plan cell k → LiesIn plan cell l → (caller name : Text) → IsReached plan k caller name → IsReached plan l caller name
reach_alike plan cell k l a b caller name r =
    (r.0, r.1, enter_alike plan cell k l a b r.0 r.2, walk_alike plan cell k l a b local r.0 r.1 r.3, r.4)

-- ---- the local caller
pub no_rule_sends : (rules : List Rule) (key : Key) (name : Text) → SendsBy rules local key name → ⊥
no_rule_sends [] key name h = h
no_rule_sends (rule ∷ rules) key name (inl h) = h.0.0 refl
no_rule_sends (rule ∷ rules) key name (inr h) = no_rule_sends rules key name h

pub no_rule_keeps : (rules : List Rule) (key : Key) → KeepsBy rules local key → ⊥
no_rule_keeps [] key h = h
no_rule_keeps (rule ∷ rules) key (inl h) = h.0.0 refl
no_rule_keeps (rule ∷ rules) key (inr h) = no_rule_keeps rules key h

pub not_known_local : (plan : Network) → IsWellFormed plan → IsKnownName plan.nodes local → ⊥
not_known_local plan formed known =
    let node : IsWellFormedNode plan.nodes known.0 = All-contains (IsWellFormedNode plan.nodes) plan.nodes known.0 formed.each_node known.1 in
    node.name.not_local known.2

-- where some rule sends to a node, one of the rules names it
named_target : (rules : List Rule) (caller : Text) (key : Key) (name : Text) → SendsBy rules caller key name → (rule : Rule) × Contains rules rule × Contains rule.to name
named_target [] caller key name h = absurd h
named_target (rule ∷ rules) caller key name (inl h) = (rule, Contains-here rule rules, h.1)
named_target (rule ∷ rules) caller key name (inr h) =
    let later = named_target rules caller key name h in (later.0, Contains-there rule rules later.0 later.1, later.2)

-- what is sent goes to a node of the plan
pub sent_to_a_node : (plan : Network) → IsWellFormed plan → (name caller : Text) (key : Key) (to : Text) → Sends plan name caller key to → IsKnownName plan.nodes to
sent_to_a_node plan formed name caller key to (inl entered) =
    let flow : IsWellFormedFlow plan.nodes entered.1.0 = All-contains (IsWellFormedFlow plan.nodes) plan.flows entered.1.0 formed.each_flow entered.1.1 in
    let P : Text → Type 0 = λ t. IsKnownName plan.nodes t in subst P entered.1.3 flow.to
sent_to_a_node plan formed name caller key to (inr ruled) =
    let node : IsWellFormedNode plan.nodes ruled.0 = All-contains (IsWellFormedNode plan.nodes) plan.nodes ruled.0 formed.each_node ruled.1.0 in
    let target = named_target ruled.0.rules caller key to ruled.2 in
    let rule : IsRuleOf plan.nodes ruled.0.name target.0 = All-contains (IsRuleOf plan.nodes ruled.0.name) ruled.0.rules target.0 node.rules target.1 in
    (All-contains (λ t. IsKnownName plan.nodes t × (t ≢ ruled.0.name)) target.0.to to rule.to target.2).0

pub local_never_sent_to : (plan : Network) → IsWellFormed plan → (name caller : Text) (key : Key) → Sends plan name caller key local → ⊥
local_never_sent_to plan formed name caller key sent = not_known_local plan formed (sent_to_a_node plan formed name caller key local sent)

-- ---- the plan's literals are printable
is_plain : (text : Text) → IsLiteral text → All (λ byte. byte < 127) text
is_plain text literal = λ k d h. (literal.printable k d h).1

pattern_is_literal : (pattern : FieldPattern) → HasFieldForm pattern → (t : Text) → Contains (literal_of pattern) t → IsLiteral t
pattern_is_literal pattern.Any form t among = absurd (nothing_in_nil t among)
pattern_is_literal (pattern.Literal literal) form t among = let P : Text → Type 0 = λ x. IsLiteral x in subst P (only_one literal t among) form
pattern_is_literal (pattern.Prefix prefix) form t among = absurd (nothing_in_nil t among)

prefix_is_prefix : (pattern : FieldPattern) → HasFieldForm pattern → (t : Text) → Contains (prefix_of pattern) t → IsPrefix t
prefix_is_prefix pattern.Any form t among = absurd (nothing_in_nil t among)
prefix_is_prefix (pattern.Literal literal) form t among = absurd (nothing_in_nil t among)
prefix_is_prefix (pattern.Prefix prefix) form t among = let P : Text → Type 0 = λ x. IsPrefix x in subst P (only_one prefix t among) form

values_are_literals : (stations : Values) → AreValues stations → (t : Text) → Contains (listed_literals stations) t → IsLiteral t
values_are_literals values.Any form t among = absurd (nothing_in_nil t among)
values_are_literals (values.Listed own) form t among = All-contains IsLiteral own.literals t form.0 among

prefixes_are_prefixes : (stations : Values) → AreValues stations → (t : Text) → Contains (listed_prefixes stations) t → IsPrefix t
prefixes_are_prefixes values.Any form t among = absurd (nothing_in_nil t among)
prefixes_are_prefixes (values.Listed own) form t among = All-contains IsPrefix own.prefixes t form.1 among

-- what a text of the plan is, by what it is named for
abbrev pub IsOf : Attribute → Text → Type 0
IsOf Modality t = IsLiteral t
IsOf ModalityPrefix t = IsPrefix t
IsOf Station t = IsLiteral t
IsOf StationPrefix t = IsPrefix t

pattern_has_form : (nodes : List Node) (name : Text) (attribute : Attribute) (rule : Rule) → IsRuleOf nodes name rule → (t : Text) → Contains (named_by_pattern attribute rule) t → IsOf attribute t
pattern_has_form nodes name Modality rule is t among = pattern_is_literal rule.modality is.modality t among
pattern_has_form nodes name ModalityPrefix rule is t among = prefix_is_prefix rule.modality is.modality t among
pattern_has_form nodes name Station rule is t among = pattern_is_literal rule.station is.station t among
pattern_has_form nodes name StationPrefix rule is t among = prefix_is_prefix rule.station is.station t among

except_has_form : (nodes : List Node) (name : Text) (attribute : Attribute) (rule : Rule) → IsRuleOf nodes name rule → (t : Text) → Contains (named_by_except attribute rule) t → IsOf attribute t
except_has_form nodes name Modality rule is t among = absurd (nothing_in_nil t among)
except_has_form nodes name ModalityPrefix rule is t among = absurd (nothing_in_nil t among)
except_has_form nodes name Station rule is t among = All-contains IsLiteral rule.except t is.except among
except_has_form nodes name StationPrefix rule is t among = absurd (nothing_in_nil t among)

rule_has_form : (nodes : List Node) (name : Text) (attribute : Attribute) (rule : Rule) → IsRuleOf nodes name rule → (t : Text) → Contains (named_by_rule attribute rule) t → IsOf attribute t
rule_has_form nodes name attribute rule is t among = elim (Contains-append_cases (named_by_pattern attribute rule) (named_by_except attribute rule) t among) [
  | inl own ↦ pattern_has_form nodes name attribute rule is t own
  | inr excepted ↦ except_has_form nodes name attribute rule is t excepted
]

flow_has_form : (nodes : List Node) (attribute : Attribute) (flow : Flow) → IsWellFormedFlow nodes flow → (t : Text) → Contains (named_by_flow attribute flow) t → IsOf attribute t
flow_has_form nodes Modality flow is t among = values_are_literals flow.modalities is.modalities t among
flow_has_form nodes ModalityPrefix flow is t among = prefixes_are_prefixes flow.modalities is.modalities t among
flow_has_form nodes Station flow is t among = values_are_literals flow.stations is.stations t among
flow_has_form nodes StationPrefix flow is t among = prefixes_are_prefixes flow.stations is.stations t among

-- each text that the plan names is a literal, or a prefix
pub named_has_form : (plan : Network) → IsWellFormed plan → (attribute : Attribute) (t : Text) → Contains (named_in attribute plan) t → IsOf attribute t
named_has_form plan formed attribute t among =
    elim (Contains-append_cases (flat_map (λ (n : Node). named_by_rules attribute n.rules) plan.nodes) (named_by_flows attribute plan.flows) t among) [
      | inl ruled ↦
          let at_node = Contains-flat_map_from (λ (n : Node). named_by_rules attribute n.rules) plan.nodes t ruled in
          let node : IsWellFormedNode plan.nodes at_node.0 = All-contains (IsWellFormedNode plan.nodes) plan.nodes at_node.0 formed.each_node at_node.1 in
          let at_rule = Contains-flat_map_from (λ (r : Rule). named_by_rule attribute r) at_node.0.rules t at_node.2 in
          let rule : IsRuleOf plan.nodes at_node.0.name at_rule.0 = All-contains (IsRuleOf plan.nodes at_node.0.name) at_node.0.rules at_rule.0 node.rules at_rule.1 in
          rule_has_form plan.nodes at_node.0.name attribute at_rule.0 rule t at_rule.2
      | inr flowed ↦
          let at_flow = Contains-flat_map_from (λ (f : Flow). named_by_flow attribute f) plan.flows t flowed in
          let flow : IsWellFormedFlow plan.nodes at_flow.0 = All-contains (IsWellFormedFlow plan.nodes) plan.flows at_flow.0 formed.each_flow at_flow.1 in
          flow_has_form plan.nodes attribute at_flow.0 flow t at_flow.2
    ]

is_plain_of : (attribute : Attribute) (t : Text) → IsOf attribute t → All (λ byte. byte < 127) t
is_plain_of Modality t is = is_plain t is
is_plain_of ModalityPrefix t is = is_plain t is.literal
is_plain_of Station t is = is_plain t is
is_plain_of StationPrefix t is = is_plain t is.literal

pub named_are_plain : (plan : Network) → IsWellFormed plan → (attribute : Attribute) → ArePlain (named_in attribute plan)
named_are_plain plan formed attribute = all_from_each (All (λ byte. byte < 127)) (named_in attribute plan) (λ t among. is_plain_of attribute t (named_has_form plan formed attribute t among))

pub modalities_are_plain : (plan : Network) → IsWellFormed plan → ArePlainValues (modalities_of plan)
modalities_are_plain plan formed = record {
  literals = named_are_plain plan formed Modality;
  prefixes = named_are_plain plan formed ModalityPrefix;
  some = all_from_each (λ t. t ≢ []) (named_in ModalityPrefix plan) (λ t among. (named_has_form plan formed ModalityPrefix t among).some);
}

pub stations_are_plain : (plan : Network) → IsWellFormed plan → ArePlainValues (stations_of plan)
stations_are_plain plan formed = record {
  literals = named_are_plain plan formed Station;
  prefixes = named_are_plain plan formed StationPrefix;
  some = all_from_each (λ t. t ≢ []) (named_in StationPrefix plan) (λ t among. (named_has_form plan formed StationPrefix t among).some);
}

-- ---- formats
none_in_each : {X : Type 0} (f : X → List Text) (xs : List X) → All (λ x. f x ≡ []) xs → flat_map f xs ≡ []
none_in_each f [] none = refl
none_in_each f (x ∷ xs) none = rw (All-head (λ y. f y ≡ []) x xs none, none_in_each f xs (All-tail (λ y. f y ≡ []) x xs none)) refl

-- where no rule and no flow names a value of the attribute, the plan names none
none_named : (attribute : Attribute) (plan : Network) → All (λ node. All (λ rule. named_by_rule attribute rule ≡ []) node.rules) plan.nodes →
    All (λ flow. named_by_flow attribute flow ≡ []) plan.flows → named_in attribute plan ≡ []
none_named attribute plan of_rules of_flows =
    let ruled : flat_map (λ (n : Node). named_by_rules attribute n.rules) plan.nodes ≡ [] =
    none_in_each (λ (n : Node). named_by_rules attribute n.rules) plan.nodes
    (all_from_each (λ n. named_by_rules attribute n.rules ≡ []) plan.nodes (λ n among. none_in_each (λ (r : Rule). named_by_rule attribute r) n.rules
    (All-contains (λ (node : Node). All (λ rule. named_by_rule attribute rule ≡ []) node.rules) plan.nodes n of_rules among))) in
    let flowed : named_by_flows attribute plan.flows ≡ [] = none_in_each (λ (f : Flow). named_by_flow attribute f) plan.flows of_flows in
    rw (ruled, flowed) refl

-- what the format has of each rule and each flow, all have
each_rule : (P Q : Rule → Type 0) (nodes : List Node) → ((rule : Rule) → P rule → Q rule) → All (λ node. All P node.rules) nodes → All (λ node. All Q node.rules) nodes
each_rule P Q nodes f all = all_from_each (λ node. All Q node.rules) nodes (λ node among. all_from_each Q node.rules
    (λ rule has. f rule (All-contains P node.rules rule (All-contains (λ (n : Node). All P n.rules) nodes node all among) has)))

each_flow : (P Q : Flow → Type 0) (flows : List Flow) → ((flow : Flow) → P flow → Q flow) → All P flows → All Q flows
each_flow P Q flows f all = all_from_each Q flows (λ flow among. f flow (All-contains P flows flow all among))

in_format : (format own : Format) (nodes : List Node) (flows : List Flow) → own ≡ format → IsInFormat own nodes flows → IsInFormat format nodes flows
in_format format own nodes flows is has = let P : Format → Type 0 = λ f. IsInFormat f nodes flows in subst P is has

-- a format without prefixes of modalities has none in its rules and flows
no_modality_prefix : (format : Format) → ((prefixes : List Text) → ModalitiesFit format prefixes → prefixes ≡ []) →
    (plan : Network) → IsInFormat format plan.nodes plan.flows → (modalities_of plan).prefixes ≡ []
no_modality_prefix format none plan has = none_named ModalityPrefix plan
    (each_rule (RuleFits format) (λ rule. prefix_of rule.modality ++ [] ≡ []) plan.nodes (λ rule fits. append-nil (prefix_of rule.modality) ∙ none (prefix_of rule.modality) fits.0) has.each_rule)
    (each_flow (λ flow. ValuesFit format flow.modalities flow.stations) (λ flow. listed_prefixes flow.modalities ≡ []) plan.flows (λ flow fits. none (listed_prefixes flow.modalities) fits.0) has.each_flow)

pub format_1_has_none : (plan : Network) → IsWellFormed plan → plan.format ≡ One → ((modalities_of plan).prefixes ≡ []) × ((stations_of plan).prefixes ≡ [])
format_1_has_none plan formed one =
    let has = in_format One plan.format plan.nodes plan.flows one formed.in_format in (
      no_modality_prefix One (λ prefixes none. none) plan has,
      none_named StationPrefix plan
          (each_rule (RuleFits One) (λ rule. prefix_of rule.station ++ [] ≡ []) plan.nodes (λ rule fits. append-nil (prefix_of rule.station) ∙ fits.1) has.each_rule)
          (each_flow (λ flow. ValuesFit One flow.modalities flow.stations) (λ flow. listed_prefixes flow.stations ≡ []) plan.flows (λ flow fits. fits.1) has.each_flow),
    )

pub format_2_has_none : (plan : Network) → IsWellFormed plan → plan.format ≡ Two → (modalities_of plan).prefixes ≡ []
format_2_has_none plan formed two = no_modality_prefix Two (λ prefixes none. none) plan (in_format Two plan.format plan.nodes plan.flows two formed.in_format)

no_exceptions : (format : Format) (except : List Text) → format ≢ Three → ExceptionsFit format except → except ≡ []
no_exceptions One except early fits = fits
no_exceptions Two except early fits = fits
no_exceptions Three except early fits = absurd (early refl)

-- before format 3 there are no exceptions
pub earlier_have_none : (plan : Network) → IsWellFormed plan → plan.format ≢ Three → (node : Node) (rule : Rule) → Contains plan.nodes node → Contains node.rules rule → rule.except ≡ []
earlier_have_none plan formed early node rule has_node has_rule =
    let fits = All-contains (RuleFits plan.format) node.rules rule
    (All-contains (λ (n : Node). All (RuleFits plan.format) n.rules) plan.nodes node formed.in_format.each_rule has_node) has_rule in
    no_exceptions plan.format rule.except early fits.2

-- where no prefix is named, the parts are the literals and the rest
plain_parts : (values : FieldValues) → values.prefixes ≡ [] → (part : OwnedField) (value : Text) → InField values part value ↔ InPlainField values.literals part value
plain_parts values none (part.Literal literal) value = (λ h. h, λ h. h)
plain_parts values none (part.Prefix prefix) value = (
  λ h. nothing_in_nil prefix (let P : List Text → Type 0 = λ ts. Contains ts prefix in subst P none h.1.among),
  λ h. absurd h,
)
plain_parts values none part.Rest value = (
  λ h. h.0,
  λ h. (h, λ prefix among begins. nothing_in_nil prefix (let P : List Text → Type 0 = λ ts. Contains ts prefix in subst P none among)),
)

pub format_1_keeps : (plan : Network) → IsWellFormed plan → plan.format ≡ One → KeepsItsParts (modalities_of plan) × KeepsItsParts (stations_of plan)
format_1_keeps plan formed one =
    let none = format_1_has_none plan formed one in (plain_parts (modalities_of plan) none.0, plain_parts (stations_of plan) none.1)

pub format_2_keeps : (plan : Network) → IsWellFormed plan → plan.format ≡ Two → KeepsItsParts (modalities_of plan)
format_2_keeps plan formed two = plain_parts (modalities_of plan) (format_2_has_none plan formed two)

pub cell_has_a_key : (plan : Network) → IsWellFormed plan → (cell : OwnedCell) → IsCellOf plan cell → LiesIn plan cell (key_of cell)
cell_has_a_key plan formed cell is = record {
  class = refl;
  syntax = refl;
  modality = part_has_value (literals_of plan).modalities cell.modality (modalities_are_plain plan formed) is.0;
  station = part_has_value (literals_of plan).stations cell.station (stations_are_plain plan formed) is.1;
}
