-- Where no list has a word that stands for nothing, no table has one.
use Rattle.std.proofs.Common.{◌≡◌, ℕ, refl, sym, subst, List, length, Option, Some, None, Result, Ok, Err, arith}
use Rattle.std.specs.Prelude.{All, IfOk, MatchOption, slice_get}
use Rattle.std.proofs.lemmas.Option.{slice_get_within, get_or_from_slice_get}
use Rattle.dr_base.specs.Texts.{Text}
use Rattle.dr_route.specs.declared.accept.Callers.{Callers}
use Rattle.dr_route.specs.declared.accept.Callers.TheVariants as callers
use Rattle.dr_plan_expand.specs.declared.short.AnyWords.{AnyWords}
use Rattle.dr_plan_expand.specs.declared.short.AnyWords.TheVariants as any
use Rattle.dr_plan_expand.specs.declared.short.ShortRow.{ShortRow}
use Rattle.dr_plan_expand.specs.declared.short.ShortRule.{ShortRule}
use Rattle.dr_plan_expand.specs.declared.short.ShortNode.{ShortNode}
use Rattle.dr_plan_expand.specs.declared.short.ShortFlow.{ShortFlow}
use Rattle.dr_plan_expand.specs.declared.short.ShortPlan.{ShortPlan}
use Rattle.dr_plan_expand.specs.Meanings.{Lookups}
use Rattle.dr_plan_places.specs.Firsts.{HasNone}
use Rattle.dr_plan_places.specs.Strangers.{IsAmong, IsAmongCallers, IsAmongWords, IsNoNode, IsNoClass, IsInRow, IsInRule, IsInFlow, IsInPart, IsStrangerAt, HasNoStranger}
use Rattle.dr_plan_places.specs.declared.field_place.FieldPlace.{FieldPlace}
use Rattle.dr_plan_places.specs.declared.field_place.FieldPlace.TheVariants.{Root, OfNode, OfFlow}
use Rattle.dr_plan_places.specs.declared.field_place.NodePart.{NodePart}
use Rattle.dr_plan_places.specs.declared.field_place.NodePart.TheVariants.{Own, AcceptRow, Rule}
use Rattle.dr_plan_places.specs.declared.strangers.Stranger.{Stranger}
use Rattle.dr_plan_places.specs.declared.strangers.WordKey.{WordKey}
use Rattle.dr_plan_places.specs.declared.strangers.WordKey.TheVariants.{From, Class, To, At}

-- what holds of each of a list holds of the one at an index
pub of_each : {X : Type 0} (P : X → Type 0) (xs : List X) (i : ℕ) (x : X) → All P xs → slice_get xs i ≡ Some x → P x
of_each P xs i x all at = subst P (get_or_from_slice_get xs i x x at) (all i x (slice_get_within xs i x at))

-- the list of a field that isn't `*`
pub in_callers : {E : Type 0} (l : Lookups) (from : Callers) (words list : List Text) → from ≡ callers.Listed words → list ≡ words → (result : Result (Option Stranger) E) →
    IfOk result (λ found. MatchOption found (HasNone (λ (w : Text). IsAmong list w × IsNoNode l w)) (λ s. (s.key ≡ From) × IsAmong list s.word × IsNoNode l s.word)) →
    IfOk result (λ found. MatchOption found (HasNone (λ (w : Text). IsAmongCallers from w × IsNoNode l w)) (λ s. (s.key ≡ From) × IsAmongCallers from s.word × IsNoNode l s.word))
in_callers l from words list is same result h =
    let P : Callers → Type 0 = λ c. IfOk result (λ found. MatchOption found (HasNone (λ (w : Text). IsAmongCallers c w × IsNoNode l w)) (λ s. (s.key ≡ From) × IsAmongCallers c s.word × IsNoNode l s.word)) in
    let Q : List Text → Type 0 = λ ws. IfOk result (λ found. MatchOption found (HasNone (λ (w : Text). IsAmong ws w × IsNoNode l w)) (λ s. (s.key ≡ From) × IsAmong ws s.word × IsNoNode l s.word)) in
    subst P (sym is) (subst Q same h)

pub in_words : {E : Type 0} (Free : Text → Type 0) (key : WordKey) (field : AnyWords) (words list : List Text) → field ≡ any.Listed words → list ≡ words → (result : Result (Option Stranger) E) →
    IfOk result (λ found. MatchOption found (HasNone (λ (w : Text). IsAmong list w × Free w)) (λ s. (s.key ≡ key) × IsAmong list s.word × Free s.word)) →
    IfOk result (λ found. MatchOption found (HasNone (λ (w : Text). IsAmongWords field w × Free w)) (λ s. (s.key ≡ key) × IsAmongWords field s.word × Free s.word))
in_words Free key field words list is same result h =
    let P : AnyWords → Type 0 = λ f. IfOk result (λ found. MatchOption found (HasNone (λ (w : Text). IsAmongWords f w × Free w)) (λ s. (s.key ≡ key) × IsAmongWords f s.word × Free s.word)) in
    let Q : List Text → Type 0 = λ ws. IfOk result (λ found. MatchOption found (HasNone (λ (w : Text). IsAmong ws w × Free w)) (λ s. (s.key ≡ key) × IsAmong ws s.word × Free s.word)) in
    subst P (sym is) (subst Q same h)

module _ (l : Lookups) where
  abbrev pub RowFree : ShortRow → Type 0
  RowFree row = HasNone (λ (s : Stranger). IsInRow l row s.key s.word)

  abbrev pub RuleFree : ShortRule → Type 0
  RuleFree rule = HasNone (λ (s : Stranger). IsInRule l rule s.key s.word)

  abbrev pub FlowFree : ShortFlow → Type 0
  FlowFree flow = HasNone (λ (s : Stranger). IsInFlow l flow s.key s.word)

  abbrev pub NodeFree : ShortNode → Type 0
  NodeFree node = HasNone (λ (s : NodePart × Stranger). IsInPart l node s.0 s.1.key s.1.word)

  in_row : (row : ShortRow) → HasNone (λ (w : Text). IsAmongCallers row.from w × IsNoNode l w) → HasNone (λ (w : Text). IsAmong row.classes w × IsNoClass l w) →
      (key : WordKey) (word : Text) → IsInRow l row key word → ⊥
  in_row row from classes From word h = from word h
  in_row row from classes Class word h = classes word h
  in_row row from classes To word h = h
  in_row row from classes At word h = h

  pub row_free : (row : ShortRow) → HasNone (λ (w : Text). IsAmongCallers row.from w × IsNoNode l w) → HasNone (λ (w : Text). IsAmong row.classes w × IsNoClass l w) → RowFree row
  row_free row from classes s h = in_row row from classes s.key s.word h

  in_rule : (rule : ShortRule) → HasNone (λ (w : Text). IsAmongWords rule.from w × IsNoNode l w) → HasNone (λ (w : Text). IsAmongWords rule.classes w × IsNoClass l w) →
      HasNone (λ (w : Text). IsAmong rule.to w × IsNoNode l w) → (key : WordKey) (word : Text) → IsInRule l rule key word → ⊥
  in_rule rule from classes to From word h = from word h
  in_rule rule from classes to Class word h = classes word h
  in_rule rule from classes to To word h = to word h
  in_rule rule from classes to At word h = h

  pub rule_free : (rule : ShortRule) → HasNone (λ (w : Text). IsAmongWords rule.from w × IsNoNode l w) → HasNone (λ (w : Text). IsAmongWords rule.classes w × IsNoClass l w) →
      HasNone (λ (w : Text). IsAmong rule.to w × IsNoNode l w) → RuleFree rule
  rule_free rule from classes to s h = in_rule rule from classes to s.key s.word h

  in_flow : (flow : ShortFlow) → HasNone (λ (w : Text). IsAmong flow.at w × IsNoNode l w) → HasNone (λ (w : Text). IsAmong flow.to w × IsNoNode l w) →
      HasNone (λ (w : Text). IsAmong flow.classes w × IsNoClass l w) → (key : WordKey) (word : Text) → IsInFlow l flow key word → ⊥
  in_flow flow at to classes From word h = h
  in_flow flow at to classes Class word h = classes word h
  in_flow flow at to classes To word h = to word h
  in_flow flow at to classes At word h = at word h

  pub flow_free : (flow : ShortFlow) → HasNone (λ (w : Text). IsAmong flow.at w × IsNoNode l w) → HasNone (λ (w : Text). IsAmong flow.to w × IsNoNode l w) →
      HasNone (λ (w : Text). IsAmong flow.classes w × IsNoClass l w) → FlowFree flow
  flow_free flow at to classes s h = in_flow flow at to classes s.key s.word h

  in_part : (node : ShortNode) → All RowFree node.accepts → All RuleFree node.rules → (part : NodePart) (key : WordKey) (word : Text) → IsInPart l node part key word → ⊥
  in_part node rows rules Own key word h = h
  in_part node rows rules (AcceptRow index) key word h = of_each RowFree node.accepts index h.0 rows h.1 (record { key = key; word = word }) h.2
  in_part node rows rules (Rule index) key word h = of_each RuleFree node.rules index h.0 rules h.1 (record { key = key; word = word }) h.2

  pub node_free : (node : ShortNode) → All RowFree node.accepts → All RuleFree node.rules → NodeFree node
  node_free node rows rules s h = in_part node rows rules s.0 s.1.key s.1.word h

  pub plan_free : (short : ShortPlan) → All NodeFree short.nodes → All FlowFree short.flows → HasNoStranger l short
  plan_free short nodes flows Root key word h = h
  plan_free short nodes flows (OfNode index part) key word h = of_each NodeFree short.nodes index h.0 nodes h.1 (part, record { key = key; word = word }) h.2
  plan_free short nodes flows (OfFlow index) key word h = of_each FlowFree short.flows index h.0 flows h.1 (record { key = key; word = word }) h.2

  -- the searches in a row, a rule, a flow and a plan
  pub row_found : {E : Type 0} (row : ShortRow) (list : List Text) → list ≡ row.classes → HasNone (λ (w : Text). IsAmongCallers row.from w × IsNoNode l w) → (result : Result (Option Stranger) E) →
      IfOk result (λ found. MatchOption found (HasNone (λ (w : Text). IsAmong list w × IsNoClass l w)) (λ s. (s.key ≡ Class) × IsAmong list s.word × IsNoClass l s.word)) →
      IfOk result (λ found. MatchOption found (RowFree row) (λ s. IsInRow l row s.key s.word))
  row_found row list same from (Ok None) h = row_free row from (subst (λ (ws : List Text). HasNone (λ (w : Text). IsAmong ws w × IsNoClass l w)) same h)
  row_found row list same from (Ok (Some s)) h =
      subst (λ (k : WordKey). IsInRow l row k s.word) (sym h.0) (subst (λ (ws : List Text). IsAmong ws s.word) same h.1, h.2)
  row_found row list same from (Err e) h = tt

  pub rule_found : {E : Type 0} (rule : ShortRule) (list : List Text) → list ≡ rule.to → HasNone (λ (w : Text). IsAmongWords rule.from w × IsNoNode l w) → HasNone (λ (w : Text). IsAmongWords rule.classes w × IsNoClass l w) →
      (result : Result (Option Stranger) E) →
      IfOk result (λ found. MatchOption found (HasNone (λ (w : Text). IsAmong list w × IsNoNode l w)) (λ s. (s.key ≡ To) × IsAmong list s.word × IsNoNode l s.word)) →
      IfOk result (λ found. MatchOption found (RuleFree rule) (λ s. IsInRule l rule s.key s.word))
  rule_found rule list same from classes (Ok None) h = rule_free rule from classes (subst (λ (ws : List Text). HasNone (λ (w : Text). IsAmong ws w × IsNoNode l w)) same h)
  rule_found rule list same from classes (Ok (Some s)) h =
      subst (λ (k : WordKey). IsInRule l rule k s.word) (sym h.0) (subst (λ (ws : List Text). IsAmong ws s.word) same h.1, h.2)
  rule_found rule list same from classes (Err e) h = tt

  pub flow_found : {E : Type 0} (flow : ShortFlow) (ats tos list : List Text) → ats ≡ flow.at → tos ≡ flow.to → list ≡ flow.classes →
      HasNone (λ (w : Text). IsAmong ats w × IsNoNode l w) → HasNone (λ (w : Text). IsAmong tos w × IsNoNode l w) → (result : Result (Option Stranger) E) →
      IfOk result (λ found. MatchOption found (HasNone (λ (w : Text). IsAmong list w × IsNoClass l w)) (λ s. (s.key ≡ Class) × IsAmong list s.word × IsNoClass l s.word)) →
      IfOk result (λ found. MatchOption found (FlowFree flow) (λ s. IsInFlow l flow s.key s.word))
  flow_found flow ats tos list same_at same_to same at to (Ok None) h =
      let P : List Text → Type 0 = λ ws. HasNone (λ (w : Text). IsAmong ws w × IsNoNode l w) in
      flow_free flow (subst P same_at at) (subst P same_to to) (subst (λ (ws : List Text). HasNone (λ (w : Text). IsAmong ws w × IsNoClass l w)) same h)
  flow_found flow ats tos list same_at same_to same at to (Ok (Some s)) h =
      subst (λ (k : WordKey). IsInFlow l flow k s.word) (sym h.0) (subst (λ (ws : List Text). IsAmong ws s.word) same h.1, h.2)
  flow_found flow ats tos list same_at same_to same at to (Err e) h = tt

  pub none_found : (short : ShortPlan) (nodes : List ShortNode) (flows : List ShortFlow) → nodes ≡ short.nodes → flows ≡ short.flows → All NodeFree nodes → All FlowFree flows → HasNoStranger l short
  none_found short nodes flows same_nodes same_flows all_nodes all_flows = plan_free short (subst (All NodeFree) same_nodes all_nodes) (subst (All FlowFree) same_flows all_flows)
