-- The nodes that a place sends a key to, as a list: what rules and flows say can be decided, rule by rule.
use Rattle.std.proofs.Common.{◌≡◌, ◌≢◌, ◌⊎◌, inl, inr, refl, sym, ◌∙◌, subst, List, [], ◌∷◌, ◌++◌, length, take, Contains}
use Rattle.std.specs.Prelude.{◌↔◌}
use Rattle.std.specs.Str.{bytes_eq}
use Rattle.std.proofs.lemmas.Bool.{cases_Bool, false≢true}
use Rattle.std.proofs.lemmas.Slice.Eq.{bytes_eq-Decides}
use Rattle.std.proofs.lemmas.List.Elements.{Contains-append_left, Contains-append_right, Contains-append_cases}
use Rattle.dr_base.specs.Texts.{Text, Begins}
use Rattle.dr_base.specs.declared.syntax.Syntax.{Syntax}
use Rattle.dr_base.specs.declared.syntax.Syntax.TheVariants.{Implicit, Explicit}
use Rattle.dr_route.specs.Routes.{local, Matches, MatchesField, TakesStation, Holds, SendsBy}
use Rattle.dr_route.specs.declared.key.Key.{Key}
use Rattle.dr_route.specs.declared.rule.Pattern.{Pattern}
use Rattle.dr_route.specs.declared.rule.Pattern.TheVariants.{Any, Literal}
use Rattle.dr_route.specs.declared.rule.FieldPattern.{FieldPattern}
use Rattle.dr_route.specs.declared.rule.FieldPattern.TheVariants as field
use Rattle.dr_route.specs.declared.rule.Rule.{Rule}
use Rattle.dr_route.proofs.Finding.{beginning, begins_first}
use Rattle.dr_plan_model.specs.declared.plan.Node.{Node}
use Rattle.dr_plan_model.specs.declared.plan.Flow.{Flow}
use Rattle.dr_plan_model.specs.declared.plan.Values.{Values}
use Rattle.dr_plan_model.specs.declared.plan.Values.TheVariants as values
use Rattle.dr_plan_model.specs.Networks.{Network}
use Rattle.dr_plan_model.specs.Walks.{IsListed, BeginsOne, FlowBrings, FlowsAmong, Sends}
use Rattle.dr_plan_model.proofs.Gathered.{nothing_in_nil, only_one, Contains-cons_cases, Contains-there, Contains-here}

-- it holds or it doesn't
abbrev pub Decided : Type 0 → Type 0
Decided P = P ⊎ (P → ⊥)

-- the texts of which something holds, as a list
abbrev pub Listing : (Text → Type 0) → Type 0
Listing P = (all : List Text) × ((t : Text) → P t ↔ Contains all t)

both : {P Q : Type 0} → Decided P → Decided Q → Decided (P × Q)
both (inl p) (inl q) = inl (p, q)
both (inl p) (inr fails) = inr (λ h. fails h.1)
both (inr fails) d = inr (λ h. fails h.0)

decided_by : {P Q : Type 0} → (P → Q) → (Q → P) → Decided P → Decided Q
decided_by there back (inl p) = inl (there p)
decided_by there back (inr fails) = inr (λ q. fails (back q))

same_text : (a b : Text) → Decided (a ≡ b)
same_text a b = elim (cases_Bool (bytes_eq a b)) [
  | inl same ↦ inl ((bytes_eq-Decides a b).0 same)
  | inr other ↦ inr (λ h. false≢true (sym other ∙ (bytes_eq-Decides a b).1 h))
]

other_text : (a b : Text) → Decided (a ≢ b)
other_text a b = elim (same_text a b) [ inl same ↦ inr (λ other. other same) | inr other ↦ inl other ]

abbrev is_explicit : Syntax → Type 0
is_explicit Implicit = ⊥
is_explicit Explicit = Unit {0}

same_syntax : (a b : Syntax) → Decided (a ≡ b)
same_syntax Implicit Implicit = inl refl
same_syntax Implicit Explicit = inr (λ h. subst is_explicit (sym h) tt)
same_syntax Explicit Implicit = inr (λ h. subst is_explicit h tt)
same_syntax Explicit Explicit = inl refl

among : {X : Type 0} → ((a b : X) → Decided (a ≡ b)) → (xs : List X) (x : X) → Decided (Contains xs x)
among decide [] x = inr (λ h. nothing_in_nil x h)
among decide (y ∷ ys) x = elim (decide y x) [
  | inl same ↦ inl (let P : _ → Type 0 = λ z. Contains (y ∷ ys) z in subst P same (Contains-here y ys))
  | inr other ↦ elim (among decide ys x) [
    | inl later ↦ inl (Contains-there y ys x later)
    | inr none ↦ inr (λ h. elim (Contains-cons_cases y ys x h) [ inl same ↦ other same | inr later ↦ none later ])
  ]
]

matches : (pattern : Pattern) (value : Text) → Decided (Matches pattern value)
matches Any value = inl tt
matches (Literal literal) value = same_text literal value

begins : (prefix value : Text) → Decided (Begins prefix value)
begins prefix value = decided_by
    (λ first. let P : Text → Type 0 = λ p. Begins p value in subst P first (begins_first (length prefix) value))
    (λ b. beginning prefix value b)
    (same_text (take (length prefix) value) prefix)

matches_field : (pattern : FieldPattern) (value : Text) → Decided (MatchesField pattern value)
matches_field field.Any value = inl tt
matches_field (field.Literal literal) value = same_text literal value
matches_field (field.Prefix prefix) value = begins prefix value

denied : {P : Type 0} → Decided P → Decided (P → ⊥)
denied (inl p) = inr (λ fails. fails p)
denied (inr fails) = inl fails

takes_station : (rule : Rule) (station : Text) → Decided (TakesStation rule station)
takes_station rule station = both (matches_field rule.station station) (denied (among same_text rule.except station))

holds : (rule : Rule) (caller : Text) (key : Key) → Decided (Holds rule caller key)
holds rule caller key = decided_by (λ h. (h.0, h.1.0, h.1.1.0, h.1.1.1.0, h.1.1.1.1)) (λ h. (h.0, (h.1, (h.2, (h.3, h.4)))))
    (both (other_text caller local) (both (matches rule.from caller) (both (matches rule.class key.class) (both (matches_field rule.modality key.modality) (takes_station rule key.station)))))

either : {P Q : Type 0} → Decided P → Decided Q → Decided (P ⊎ Q)
either (inl p) d = inl (inl p)
either (inr fails) (inl q) = inl (inr q)
either (inr fails) (inr fail) = inr (λ h. elim h [ inl p ↦ fails p | inr q ↦ fail q ])

begins_one : (prefixes : List Text) (value : Text) → Decided (BeginsOne prefixes value)
begins_one [] value = inr (λ h. nothing_in_nil h.0 h.1)
begins_one (prefix ∷ prefixes) value = decided_by
    (λ h. elim h [ inl here ↦ (prefix, Contains-here prefix prefixes, here) | inr later ↦ (later.0, Contains-there prefix prefixes later.0 later.1, later.2) ])
    (λ one. elim (Contains-cons_cases prefix prefixes one.0 one.1) [
      | inl same ↦ inl (let P : Text → Type 0 = λ p. Begins p value in subst P (sym same) one.2)
      | inr later ↦ inr (one.0, later, one.2)
    ])
    (either (begins prefix value) (begins_one prefixes value))

is_listed : (list : Values) (value : Text) → Decided (IsListed list value)
is_listed values.Any value = inl tt
is_listed (values.Listed own) value = either (among same_text own.literals value) (begins_one own.prefixes value)

fits : (flow : Flow) (key : Key) → Decided (FlowBrings flow key)
fits flow key = decided_by
    (λ h. record { class = h.0; syntax = h.1.0; modality = h.1.1.0; station = h.1.1.1 })
    (λ h. (h.class, (h.syntax, (h.modality, h.station))))
    (both (among same_text flow.classes key.class) (both (among same_syntax flow.syntaxes key.syntax) (both (is_listed flow.modalities key.modality) (is_listed flow.stations key.station))))

-- lists of nothing, of two lists together, and of a list where something holds
none_listed : {P : Text → Type 0} → ((t : Text) → P t → ⊥) → Listing P
none_listed none = ([], λ t. (λ p. absurd (none t p), λ h. absurd (nothing_in_nil t h)))

either_listed : {P Q : Text → Type 0} → Listing P → Listing Q → Listing (λ t. P t ⊎ Q t)
either_listed p q = (
  p.0 ++ q.0,
  λ t. (
    λ h. elim h [ inl x ↦ Contains-append_left p.0 q.0 t ((p.1 t).0 x) | inr y ↦ Contains-append_right p.0 q.0 t ((q.1 t).0 y) ],
    λ h. elim (Contains-append_cases p.0 q.0 t h) [ inl x ↦ inl ((p.1 t).1 x) | inr y ↦ inr ((q.1 t).1 y) ],
  ),
)

where_listed : {C : Type 0} {P : Text → Type 0} → Decided C → Listing P → Listing (λ t. C × P t)
where_listed (inl c) p = (p.0, λ t. (λ h. (p.1 t).0 h.1, λ h. (c, (p.1 t).1 h)))
where_listed (inr fails) p = none_listed (λ t h. fails h.0)

-- what some element of a list names
some_listed : {X : Type 0} (P : X → Text → Type 0) → ((x : X) → Listing (P x)) → (xs : List X) → Listing (λ t. (x : X) × Contains xs x × P x t)
some_listed P each [] = none_listed (λ t h. nothing_in_nil h.0 h.1)
some_listed P each (y ∷ ys) =
    let first = each y in
    let rest = some_listed P each ys in (
      first.0 ++ rest.0,
      λ t. (
        λ h. elim (Contains-cons_cases y ys h.0 h.1) [
          | inl same ↦ (let Q : _ → Type 0 = λ x. P x t in Contains-append_left first.0 rest.0 t ((first.1 t).0 (subst Q (sym same) h.2)))
          | inr later ↦ Contains-append_right first.0 rest.0 t ((rest.1 t).0 (h.0, later, h.2))
        ],
        λ h. elim (Contains-append_cases first.0 rest.0 t h) [
          | inl here ↦ (y, Contains-here y ys, (first.1 t).1 here)
          | inr there ↦ (let x = (rest.1 t).1 there in (x.0, Contains-there y ys x.0 x.1, x.2))
        ],
      ),
    )

members : (xs : List Text) → Listing (Contains xs)
members xs = (xs, λ t. (λ h. h, λ h. h))

one : (to : Text) → Listing (λ t. to ≡ t)
one to = (to ∷ [], λ t. (λ h. let P : Text → Type 0 = λ x. Contains (to ∷ []) x in subst P h (Contains-here to []), λ h. only_one to t h))

by_rules : (rules : List Rule) (caller : Text) (key : Key) → Listing (SendsBy rules caller key)
by_rules [] caller key = none_listed (λ t h. h)
by_rules (rule ∷ rules) caller key = either_listed (where_listed (holds rule caller key) (members rule.to)) (by_rules rules caller key)

by_flow : (site : Text) (key : Key) (flow : Flow) → Listing (λ to. (flow.at ≡ site) × (flow.to ≡ to) × FlowBrings flow key)
by_flow site key flow =
    let listed = where_listed (both (same_text flow.at site) (fits flow key)) (one flow.to) in
    (listed.0, λ t. (λ h. (listed.1 t).0 ((h.0, h.2), h.1), λ h. let x = (listed.1 t).1 h in (x.0.0, x.1, x.0.1)))

by_flows : (flows : List Flow) (site : Text) (key : Key) → Listing (FlowsAmong flows site key)
by_flows flows site key =
    let all = some_listed (λ (flow : Flow) (to : Text). (flow.at ≡ site) × (flow.to ≡ to) × FlowBrings flow key) (by_flow site key) flows in
    (all.0, λ t. (λ h. (all.1 t).0 (h.0, h.1, (h.2, h.3, h.4)), λ h. let x = (all.1 t).1 h in (x.0, x.1, x.2.0, x.2.1, x.2.2)))

by_node : (name caller : Text) (key : Key) (node : Node) → Listing (λ to. (node.name ≡ name) × SendsBy node.rules caller key to)
by_node name caller key node = where_listed (same_text node.name name) (by_rules node.rules caller key)

-- the nodes that the node sends the key to, which it has from the caller
pub targets_listed : (plan : Network) (name caller : Text) (key : Key) → Listing (Sends plan name caller key)
targets_listed plan name caller key =
    let nodes = some_listed (λ (node : Node) (to : Text). (node.name ≡ name) × SendsBy node.rules caller key to) (by_node name caller key) plan.nodes in
    let shaped : Listing (λ to. (node : Node) × (Contains plan.nodes node × (node.name ≡ name)) × SendsBy node.rules caller key to) =
    (nodes.0, λ t. (λ h. (nodes.1 t).0 (h.0, h.1.0, (h.1.1, h.2)), λ h. let x = (nodes.1 t).1 h in (x.0, (x.1, x.2.0), x.2.1))) in
    either_listed (where_listed (same_text caller local) (by_flows plan.flows name key)) shaped
