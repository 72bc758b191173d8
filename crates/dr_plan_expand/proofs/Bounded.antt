-- What a plan within the bound means is within it too.
use Rattle.std.proofs.Common.{◌≡◌, ℕ, zero, suc, ◌+◌, ◌*◌, ◌<◌, ◌≤◌, refl, sym, ◌∙◌, ap, subst, List, [], ◌∷◌, ◌++◌, map, length, get_or, sum_by, inl, inr, arith}
use Rattle.std.specs.Prelude.{nat_eq, nat_le, flat_map}
use Rattle.std.proofs.lemmas.Bool.{false≢true, cond-true, cond_both, eqb-true, eq-eqb, leb-true}
use Rattle.std.proofs.lemmas.List.{length-append, length-map}
use Rattle.std.proofs.lemmas.List.Sums.{sum_by-cons, sum_by-append}
use Rattle.std.proofs.Math.Nat.{le-mul_of_pos_right, mul-le-mul, mul-zero, mul_assoc, mul_comm, suc-mul, zero-mul}
use Rattle.std.proofs.lemmas.List.Concat.{flat_map-cons}
use Rattle.std.proofs.lemmas.Slice.Eq.{bytes_eq-Decides}
use Rattle.std.specs.Str.{bytes_eq}
use Rattle.dr_base.specs.Texts.{Text}
use Rattle.dr_route.specs.declared.rule.Rule.{Rule}
use Rattle.dr_route.specs.declared.rule.Pattern.{Pattern}
use Rattle.dr_route.specs.declared.rule.Pattern.TheVariants.{Literal}
use Rattle.dr_plan_expand.specs.declared.short.AnyWords.{AnyWords}
use Rattle.dr_plan_expand.specs.declared.short.AnyWords.TheVariants as any
use Rattle.dr_route.specs.declared.accept.Callers.{Callers}
use Rattle.dr_route.specs.declared.accept.Callers.TheVariants as callers
use Rattle.dr_plan_model.specs.declared.plan.Values.{Values}
use Rattle.dr_plan_model.specs.declared.plan.Values.TheVariants as values
use Rattle.dr_plan_text.specs.declared.words.AcceptText.{AcceptText}
use Rattle.dr_plan_text.specs.declared.words.NodeText.{NodeText}
use Rattle.dr_plan_text.specs.declared.words.FlowText.{FlowText}
use Rattle.dr_plan_text.specs.declared.words.PlanText.{PlanText}
use Rattle.dr_plan_expand.specs.Lists.{Yields}
use Rattle.dr_plan_expand.specs.Words.{Known, OfSet, Defines, IsPlainWord, IsSet, YieldsClass, YieldsOfSet, YieldsClasses, YieldsNodes, YieldsSyntax}
use Rattle.dr_plan_expand.specs.Meanings.{Lookups, lookups_of, IsCallers, ArePatterns, YieldsRows, YieldsRules, YieldsNode, YieldsFlows, Means, row_of, rule_of, node_of, flow_of}
use Rattle.dr_plan_expand.specs.Amounts.{most, too_much, list_amount, defined_size, one_if_in, usual_size, marked_size, word_size, word_nodes, word_classes, words_size, callers_size, any_size, values_size, row_size, rule_size, node_size, lists_size, flow_size, IsWithin}
use Rattle.dr_plan_expand.specs.Laws.{callers_count, values_count, row_words, rule_words, node_words, flow_words, plan_words}
use Rattle.dr_plan_expand.specs.declared.short.Definition.{Definition}
use Rattle.dr_plan_expand.specs.declared.short.ShortRow.{ShortRow}
use Rattle.dr_plan_expand.specs.declared.short.ShortRule.{ShortRule}
use Rattle.dr_plan_expand.specs.declared.short.ShortNode.{ShortNode}
use Rattle.dr_plan_expand.specs.declared.short.ShortFlow.{ShortFlow}
use Rattle.dr_plan_expand.specs.declared.short.ShortPlan.{ShortPlan}
use Rattle.dr_plan_expand.proofs.Marked.{same_mark}
use Rattle.dr_plan_expand.proofs.Summed.{listed_few, defined_some, defined_none}

-- what elements yield is no more than they are counted for, where a measure of lists adds up
module _ {X Y : Type 0} (Of : X → List Y → Type 0) (size : X → ℕ) (m : List Y → ℕ) (bound : ℕ) (none : m [] ≡ 0) (adds : (a b : List Y) → m (a ++ b) ≡ m a + m b)
    (each : (x : X) (here : List Y) → Of x here → size x ≤ bound → m here ≤ size x) where
  yields_within : (xs : List X) (things : List Y) → Yields Of xs things → sum_by size xs ≤ bound → m things ≤ sum_by size xs
  yields_within [] things y le = let all : m things ≡ 0 = ap m y ∙ none in omega arith
  yields_within (x ∷ xs) things y le =
      let sum = sum_by-cons size x xs in
      let here : m y.0 ≤ size x = each x y.0 y.2 (omega arith) in
      let more : m y.1 ≤ sum_by size xs = yields_within xs y.1 y.3 (omega arith) in
      let long : m things ≡ m y.0 + m y.1 = ap m y.4 ∙ adds y.0 y.1 in
      omega arith

-- a list that is counted within the bound is counted as it is
few : (n : ℕ) → list_amount n ≤ most → n ≤ 1024
few n = cond_both (nat_le n 1024) n too_much (λ x. x ≤ most → n ≤ 1024) (λ e le. leb-true n 1024 e) (λ e le. absurd (let over : too_much ≤ most = le in omega arith))

words_within : {Y : Type 0} (Of : Text → List Y → Type 0) (size : Text → ℕ) → ((word : Text) (here : List Y) → Of word here → size word ≤ 1024 → length here ≤ size word) →
    (words : List Text) (things : List Y) → Yields Of words things → words_size size words ≤ most → length things ≤ words_size size words
words_within Of size each words things y le =
    let less = few (sum_by size words) le in
    let same = listed_few (sum_by size words) less in
    let long = yields_within Of size length 1024 refl length-append each words things y less in
    subst (λ n. length things ≤ n) same long

-- for how many one word stands
marked_within : (named : Text → ℕ) (word : Text) (n : ℕ) → ((name : Text) → word ≡ 64 ∷ name → named name ≤ 1024 → n ≤ named name) → (IsPlainWord word → n ≤ 1) → marked_size named word ≤ 1024 → n ≤ marked_size named word
marked_within named [] n marked plain = λ le. plain (λ rest e. cc)
marked_within named (byte ∷ name) n marked plain = cond_both (nat_eq byte 64) (named name) 1 (λ x. x ≤ 1024 → n ≤ x)
    (λ e. marked name (ap (λ b. b ∷ name) (eqb-true byte 64 e)))
    (λ e le. plain (λ rest same. false≢true (sym e ∙ eq-eqb byte 64 (ap (λ (t : Text). get_or t 0 0) same))))

word_within : (named : Text → ℕ) (word : Text) (n : ℕ) → ((name : Text) → word ≡ 64 ∷ name → named name ≤ 1024 → n ≤ named name) → (IsPlainWord word → n ≤ 1) → word_size named word ≤ 1024 → n ≤ word_size named word
word_within named word n marked plain = cond_both (nat_le (length word) 128) (marked_size named word) too_much (λ x. x ≤ 1024 → n ≤ x)
    (λ e. marked_within named word n marked plain)
    (λ e le. absurd (let over : too_much ≤ 1024 = le in omega arith))

no_more : (a b : ℕ) → a ≡ b → a ≤ b
no_more a b e = omega arith

nodes_within : (groups : List Definition) (word : Text) (names : List Text) → YieldsNodes groups word names → word_nodes groups word ≤ 1024 → length names ≤ word_nodes groups word
nodes_within groups word names y = word_within (λ name. defined_size groups name 1) word (length names)
    (λ name e le. elim y [
      | inl group ↦ (
          let P : Text → Type 0 = λ t. Defines groups t names in
          no_more _ _ (defined_some groups name names 1 (subst P (same_mark word group.0 name group.1 e) group.2))
          )
      | inr plain ↦ absurd (plain.0 name e)
    ])
    (λ plain. elim y [ inl group ↦ absurd (plain group.0 group.1) | inr itself ↦ no_more _ _ (ap length itself.1) ])

-- each word of a set is one class
each_one : (tables : List (List Known)) (words uids : List Text) → Yields (YieldsClass tables) words uids → length uids ≡ length words
each_one tables [] uids y = ap length y
each_one tables (word ∷ words) uids y =
    let here : length y.0 ≡ 1 = ap length y.2.2 in
    let more = each_one tables words y.1 y.3 in
    let long : length uids ≡ length y.0 + length y.1 = ap length y.4 ∙ length-append y.0 y.1 in
    omega arith

one_within : (set : Text) (class : OfSet) (uids : List Text) → YieldsOfSet set class uids → one_if_in set class ≤ 1024 → length uids ≤ one_if_in set class
one_within set class uids y le = elim y [
  | inl its ↦ (
      let one : one_if_in set class ≡ 1 = cond-true (bytes_eq class.0 set) 1 0 ((bytes_eq-Decides class.0 set).1 its.0) in
      let long : length uids ≡ 1 = ap length its.1 in
      omega arith
      )
  | inr none ↦ (let long : length uids ≡ 0 = ap length none.1 in omega arith)
]

usual_within : (usual : List (List OfSet)) (set : Text) (uids : List Text) → Yields (Yields (YieldsOfSet set)) usual uids → usual_size usual set ≤ 1024 → length uids ≤ usual_size usual set
usual_within usual set uids y le =
    let less = few (sum_by (sum_by (one_if_in set)) usual) (omega arith) in
    let same = listed_few (sum_by (sum_by (one_if_in set)) usual) less in
    let long = yields_within (Yields (YieldsOfSet set)) (sum_by (one_if_in set)) length 1024 refl length-append
    (λ table here of within. yields_within (YieldsOfSet set) (one_if_in set) length 1024 refl length-append (one_within set) table here of within) usual uids y less in
    subst (λ n. length uids ≤ n) same long

set_within : (tables : List (List Known)) (usual : List (List OfSet)) (sets : List Definition) (name : Text) (uids : List Text) → IsSet tables usual sets name uids →
    defined_size sets name (usual_size usual name) ≤ 1024 → length uids ≤ defined_size sets name (usual_size usual name)
set_within tables usual sets name uids is le = elim is [
  | inl own ↦ no_more _ _ (each_one tables own.0 uids own.2 ∙ defined_some sets name own.0 (usual_size usual name) own.1)
  | inr other ↦ (
      let same = defined_none sets name (usual_size usual name) other.0 in
      subst (λ n. length uids ≤ n) same (usual_within usual name uids other.1 (omega arith))
      )
]

classes_within : (tables : List (List Known)) (usual : List (List OfSet)) (sets : List Definition) (word : Text) (uids : List Text) → YieldsClasses tables usual sets word uids → word_classes usual sets word ≤ 1024 → length uids ≤ word_classes usual sets word
classes_within tables usual sets word uids y = word_within (λ name. defined_size sets name (usual_size usual name)) word (length uids)
    (λ name e le. elim y [
      | inl set ↦ (
          let P : Text → Type 0 = λ t. IsSet tables usual sets t uids in
          set_within tables usual sets name uids (subst P (same_mark word set.0 name set.1 e) set.2) le
          )
      | inr plain ↦ absurd (plain.0 name e)
    ])
    (λ plain. elim y [ inl set ↦ absurd (plain set.0 set.1) | inr itself ↦ no_more _ _ (ap length itself.1.2) ])

patterns_within : (Of : Text → List Text → Type 0) (size : Text → ℕ) → ((word : Text) (here : List Text) → Of word here → size word ≤ 1024 → length here ≤ size word) →
    (field : AnyWords) (patterns : List Pattern) → ArePatterns Of field patterns → any_size size field ≤ most → length patterns ≤ any_size size field
patterns_within Of size each any.Any patterns are le = no_more _ _ (ap length are)
patterns_within Of size each (any.Listed words) patterns are le =
    let long : length patterns ≡ length are.0 = ap length are.2 ∙ length-map are.0 Literal in
    let less = words_within Of size each words are.0 are.1 le in
    omega arith

-- a product within the bound, each of whose factors is within its own
product : (a b f c : ℕ) → (f ≤ most → a ≤ f) → (c ≤ most → b ≤ c) → f * c ≤ most → a * b ≤ f * c
product a b zero c one other le =
    let none : a ≡ 0 = (let z = one (omega arith) in omega arith) in
    rw none (omega arith)
product a b (suc f) zero one other le =
    let none : b ≡ 0 = (let z = other (omega arith) in omega arith) in
    let zero_in : a * b ≡ 0 = ap (λ n. a * n) none ∙ mul-zero a in
    omega arith
product a b (suc f) (suc c) one other le =
    let wide : suc f ≤ suc f * suc c = le-mul_of_pos_right (suc f) (omega arith) in
    let high : suc c ≤ suc c * suc f = le-mul_of_pos_right (suc c) (omega arith) in
    let turned = mul_comm (suc c) (suc f) in
    mul-le-mul (one (omega arith)) (other (omega arith))

-- how much a list is, each of whose elements is as much
map_much : {X Y : Type 0} (m : Y → ℕ) (g : X → Y) (n : ℕ) → ((x : X) → m (g x) ≡ n) → (xs : List X) → sum_by m (map g xs) ≡ length xs * n
map_much m g n each [] = sym (zero-mul n)
map_much m g n each (x ∷ xs) =
    let more = map_much m g n each xs in
    let here = each x in
    let sum : sum_by m (map g (x ∷ xs)) ≡ m (g x) + sum_by m (map g xs) = sum_by-cons m (g x) (map g xs) in
    let times : suc (length xs) * n ≡ length xs * n + n = suc-mul (length xs) n in
    omega arith

flat_much : {X Y : Type 0} (m : Y → ℕ) (g : X → List Y) (n : ℕ) → ((x : X) → sum_by m (g x) ≡ n) → (xs : List X) → sum_by m (flat_map g xs) ≡ length xs * n
flat_much m g n each [] = sym (zero-mul n)
flat_much m g n each (x ∷ xs) =
    let more = flat_much m g n each xs in
    let here = each x in
    let sum : sum_by m (flat_map g (x ∷ xs)) ≡ sum_by m (g x) + sum_by m (flat_map g xs) = ap (sum_by m) (flat_map-cons g x xs) ∙ sum_by-append m (g x) (flat_map g xs) in
    let times : suc (length xs) * n ≡ length xs * n + n = suc-mul (length xs) n in
    omega arith

-- the lists of a row, a rule and a flow
listed_within : (n : ℕ) → list_amount n ≤ most → n ≤ list_amount n
listed_within n le = no_more n (list_amount n) (listed_few n (few n le))

callers_within : (groups : List Definition) (words from : Callers) → IsCallers groups words from → callers_size groups words ≤ most → callers_count from ≤ callers_size groups words
callers_within groups callers.Any from is le = no_more _ _ (ap callers_count is)
callers_within groups (callers.Listed words) from is le =
    let long : callers_count from ≡ length is.0 = ap callers_count is.2 in
    let less = words_within (YieldsNodes groups) (word_nodes groups) (nodes_within groups) words is.0 is.1 le in
    omega arith

values_within : (own : Values) → values_size own ≤ most → values_count own ≤ values_size own
values_within values.Any le = no_more _ _ refl
values_within (values.Listed own) le =
    let some = listed_within (length own.literals) (omega arith) in
    let more = listed_within (length own.prefixes) (omega arith) in
    omega arith

syntax_within : (tables : List (List Known)) (word : Text) (uids : List Text) → YieldsSyntax tables word uids → word_nodes [] word ≤ 1024 → length uids ≤ word_nodes [] word
syntax_within tables word uids y =
    let one : length uids ≡ 1 = elim y [ inl known ↦ ap length known.2 | inr itself ↦ ap length itself.1 ] in
    word_within (λ name. defined_size [] name 1) word (length uids) (λ name e le. no_more _ _ one) (λ plain. no_more _ _ one)

module _ (l : Lookups) where
  syntaxes_within : (words uids : List Text) → Yields (YieldsSyntax l.syntaxes) words uids → words_size (word_nodes []) words ≤ most → length uids ≤ words_size (word_nodes []) words
  syntaxes_within words uids y le = words_within (YieldsSyntax l.syntaxes) (word_nodes []) (syntax_within l.syntaxes) words uids y le

  rows_within : (row : ShortRow) (rows : List AcceptText) → YieldsRows l row rows → row_size l row ≤ most → sum_by row_words rows ≤ row_size l row
  rows_within row rows y le =
      let much : sum_by row_words rows ≡ length y.classes * (1 + (callers_count y.from + length y.syntaxes)) =
      ap (sum_by row_words) y.are ∙ map_much row_words (row_of y.from y.syntaxes) (1 + (callers_count y.from + length y.syntaxes)) (λ class. refl) y.classes in
      let less = product (length y.classes) (1 + (callers_count y.from + length y.syntaxes))
      (words_size (word_classes l.usual l.sets) row.classes) (1 + (callers_size l.groups row.from + words_size (word_nodes []) row.syntaxes))
      (words_within (YieldsClasses l.classes l.usual l.sets) (word_classes l.usual l.sets) (classes_within l.classes l.usual l.sets) row.classes y.classes y.each_class)
      (λ part.
      let from = callers_within l.groups row.from y.from y.each_caller (omega arith) in
      let syntaxes = syntaxes_within row.syntaxes y.syntaxes y.each_syntax (omega arith) in
      omega arith) le in
      omega arith

  rules_within : (rule : ShortRule) (rules : List Rule) → YieldsRules l rule rules → rule_size l rule ≤ most → sum_by rule_words rules ≤ rule_size l rule
  rules_within rule rules y le =
      let much : sum_by rule_words rules ≡ length y.froms * (length y.classes * (1 + (length rule.except + length y.to))) =
      ap (sum_by rule_words) y.are ∙ flat_much rule_words (λ from. map (rule_of rule y.to from) y.classes) (length y.classes * (1 + (length rule.except + length y.to)))
      (λ from. map_much rule_words (rule_of rule y.to from) (1 + (length rule.except + length y.to)) (λ class. refl) y.classes) y.froms in
      let turned = mul_assoc (length y.froms) (length y.classes) (1 + (length rule.except + length y.to)) in
      let less = product (length y.froms * length y.classes) (1 + (length rule.except + length y.to))
      (any_size (word_nodes l.groups) rule.from * any_size (word_classes l.usual l.sets) rule.classes)
      (1 + (list_amount (length rule.except) + words_size (word_nodes l.groups) rule.to))
      (product (length y.froms) (length y.classes) (any_size (word_nodes l.groups) rule.from) (any_size (word_classes l.usual l.sets) rule.classes)
      (patterns_within (YieldsNodes l.groups) (word_nodes l.groups) (nodes_within l.groups) rule.from y.froms y.each_caller)
      (patterns_within (YieldsClasses l.classes l.usual l.sets) (word_classes l.usual l.sets) (classes_within l.classes l.usual l.sets) rule.classes y.classes y.each_class))
      (λ lists.
      let except = listed_within (length rule.except) (omega arith) in
      let to = words_within (YieldsNodes l.groups) (word_nodes l.groups) (nodes_within l.groups) rule.to y.to y.each_target (omega arith) in
      omega arith) le in
      omega arith

  lists_within : (flow : ShortFlow) (classes syntaxes : List Text) → Yields (YieldsClasses l.classes l.usual l.sets) flow.classes classes → Yields (YieldsSyntax l.syntaxes) flow.syntaxes syntaxes →
      lists_size l flow ≤ most → 1 + (length classes + length syntaxes + values_count flow.modalities + values_count flow.stations) ≤ lists_size l flow
  lists_within flow classes syntaxes of_classes of_syntaxes le =
      let some = words_within (YieldsClasses l.classes l.usual l.sets) (word_classes l.usual l.sets) (classes_within l.classes l.usual l.sets) flow.classes classes of_classes (omega arith) in
      let more = syntaxes_within flow.syntaxes syntaxes of_syntaxes (omega arith) in
      let modalities = values_within flow.modalities (omega arith) in
      let stations = values_within flow.stations (omega arith) in
      omega arith

  flows_within : (flow : ShortFlow) (flows : List FlowText) → YieldsFlows l flow flows → flow_size l flow ≤ most → sum_by flow_words flows ≤ flow_size l flow
  flows_within flow flows y le =
      let much : sum_by flow_words flows ≡ length y.ats * (length y.tos * (1 + (length y.classes + length y.syntaxes + values_count flow.modalities + values_count flow.stations))) =
      ap (sum_by flow_words) y.are ∙ flat_much flow_words (λ at. map (flow_of flow y.classes y.syntaxes at) y.tos)
      (length y.tos * (1 + (length y.classes + length y.syntaxes + values_count flow.modalities + values_count flow.stations)))
      (λ at. map_much flow_words (flow_of flow y.classes y.syntaxes at) (1 + (length y.classes + length y.syntaxes + values_count flow.modalities + values_count flow.stations)) (λ to. refl) y.tos) y.ats in
      let turned = mul_assoc (length y.ats) (length y.tos) (1 + (length y.classes + length y.syntaxes + values_count flow.modalities + values_count flow.stations)) in
      let less = product (length y.ats * length y.tos) (1 + (length y.classes + length y.syntaxes + values_count flow.modalities + values_count flow.stations))
      (words_size (word_nodes l.groups) flow.at * words_size (word_nodes l.groups) flow.to) (lists_size l flow)
      (product (length y.ats) (length y.tos) (words_size (word_nodes l.groups) flow.at) (words_size (word_nodes l.groups) flow.to)
      (words_within (YieldsNodes l.groups) (word_nodes l.groups) (nodes_within l.groups) flow.at y.ats y.each_at)
      (words_within (YieldsNodes l.groups) (word_nodes l.groups) (nodes_within l.groups) flow.to y.tos y.each_to))
      (lists_within flow y.classes y.syntaxes y.each_class y.each_syntax) le in
      omega arith

  node_within : (node : ShortNode) (nodes : List NodeText) → YieldsNode l node nodes → node_size l node ≤ most → sum_by node_words nodes ≤ node_size l node
  node_within node nodes y le =
      let one : sum_by node_words nodes ≡ node_words (node_of node y.accepts y.rules) + 0 = ap (sum_by node_words) y.are ∙ sum_by-cons node_words (node_of node y.accepts y.rules) [] in
      let rows = yields_within (YieldsRows l) (row_size l) (sum_by row_words) most refl (sum_by-append row_words) rows_within node.accepts y.accepts y.each_row (omega arith) in
      let rules = yields_within (YieldsRules l) (rule_size l) (sum_by rule_words) most refl (sum_by-append rule_words) rules_within node.rules y.rules y.each_rule (omega arith) in
      omega arith

-- the words of a plan that is within the bound
pub bounded : (short : ShortPlan) (plan : PlanText) → Means short plan → IsWithin short → plan_words plan ≤ most
bounded short plan means within =
    let l = lookups_of short in
    let nodes = yields_within (YieldsNode l) (node_size l) (sum_by node_words) most refl (sum_by-append node_words) (node_within l) short.nodes plan.nodes means.nodes (omega arith) in
    let flows = yields_within (YieldsFlows l) (flow_size l) (sum_by flow_words) most refl (sum_by-append flow_words) (flows_within l) short.flows plan.flows means.flows (omega arith) in
    omega arith
