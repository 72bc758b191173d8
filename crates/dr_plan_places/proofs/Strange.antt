-- A plan of format 3 with a word that stands for nothing means nothing, and one with a table that is too much is beyond the bound.
use Rattle.std.proofs.Common.{◌≡◌, ℕ, zero, suc, ◌+◌, ◌<◌, ◌≤◌, subst, List, [], ◌∷◌, length, get_or, take, sum_by, Some, arith}
use Rattle.std.specs.Prelude.{slice_get}
use Rattle.std.proofs.lemmas.Option.{slice_get_within, get_or_from_slice_get}
use Rattle.std.proofs.lemmas.List.Sums.{sum_by-take-le}
use Rattle.dr_base.specs.Texts.{Text}
use Rattle.dr_route.specs.declared.accept.Callers.{Callers}
use Rattle.dr_route.specs.declared.accept.Callers.TheVariants as callers
use Rattle.dr_route.specs.declared.rule.Pattern.{Pattern}
use Rattle.dr_route.specs.declared.rule.Rule.{Rule as Routing}
use Rattle.dr_plan_text.specs.declared.words.AcceptText.{AcceptText}
use Rattle.dr_plan_text.specs.declared.words.NodeText.{NodeText}
use Rattle.dr_plan_text.specs.declared.words.FlowText.{FlowText}
use Rattle.dr_plan_expand.specs.declared.short.AnyWords.{AnyWords}
use Rattle.dr_plan_expand.specs.declared.short.AnyWords.TheVariants as any
use Rattle.dr_plan_expand.specs.declared.short.Definition.{Definition}
use Rattle.dr_plan_expand.specs.declared.short.ShortRow.{ShortRow}
use Rattle.dr_plan_expand.specs.declared.short.ShortRule.{ShortRule}
use Rattle.dr_plan_expand.specs.declared.short.ShortNode.{ShortNode}
use Rattle.dr_plan_expand.specs.declared.short.ShortFlow.{ShortFlow}
use Rattle.dr_plan_expand.specs.declared.short.ShortPlan.{ShortPlan}
use Rattle.dr_plan_expand.specs.Lists.{Yields}
use Rattle.dr_plan_expand.specs.Words.{YieldsNodes, YieldsClasses}
use Rattle.dr_plan_expand.specs.Meanings.{Lookups, lookups_of, IsCallers, ArePatterns, YieldsRows, YieldsRules, YieldsNode, YieldsFlows}
use Rattle.dr_plan_expand.specs.Amounts.{most, node_size, flow_size, plan_size}
use Rattle.dr_plan_places.specs.Excess.{IsExcessAt}
use Rattle.dr_plan_places.specs.Strangers.{IsAmong, IsAmongCallers, IsAmongWords, IsInRow, IsInRule, IsInFlow, IsInPart}
use Rattle.dr_plan_places.specs.Laws.{StrangersRefute, ExcessRefutes}
use Rattle.dr_plan_places.specs.declared.field_place.FieldPlace.{FieldPlace}
use Rattle.dr_plan_places.specs.declared.field_place.FieldPlace.TheVariants.{Root, OfNode, OfFlow}
use Rattle.dr_plan_places.specs.declared.field_place.NodePart.{NodePart}
use Rattle.dr_plan_places.specs.declared.field_place.NodePart.TheVariants.{Own, AcceptRow, Rule}
use Rattle.dr_plan_places.specs.declared.strangers.WordKey.{WordKey}
use Rattle.dr_plan_places.specs.declared.strangers.WordKey.TheVariants.{From, Class, To, At}

-- each element of a list that yields something yields something
yielded_at : {X Y : Type 0} (Of : X → List Y → Type 0) (xs : List X) (things : List Y) (i : ℕ) (d : X) → i < length xs → Yields Of xs things → (here : List Y) × Of (get_or xs i d) here
yielded_at Of [] things i d lt y = absurd (let none : ⊥ = omega arith in none)
yielded_at Of (x ∷ xs) things zero d lt y = (y.0, y.2)
yielded_at Of (x ∷ xs) things (suc i) d lt y = yielded_at Of xs y.1 i d (omega arith) y.3

yielded : {X Y : Type 0} (Of : X → List Y → Type 0) (xs : List X) (things : List Y) (i : ℕ) (x : X) → slice_get xs i ≡ Some x → Yields Of xs things → (here : List Y) × Of x here
yielded {X} {Y} Of xs things i x at y =
    let P : X → Type 0 = λ z. (here : List Y) × Of z here in
    subst P (get_or_from_slice_get xs i x x at) (yielded_at Of xs things i x (slice_get_within xs i x at) y)

among : {Y : Type 0} (Of : Text → List Y → Type 0) (words : List Text) (things : List Y) (word : Text) → Yields Of words things → IsAmong words word → ((here : List Y) → Of word here → ⊥) → ⊥
among Of words things word y at none = let found = yielded Of words things at.0 word at.1 y in none found.0 found.1

of_callers : (groups : List Definition) (words from : Callers) (word : Text) → IsCallers groups words from → IsAmongCallers words word → ((names : List Text) → YieldsNodes groups word names → ⊥) → ⊥
of_callers groups callers.Any from word is at none = at
of_callers groups (callers.Listed words) from word is at none = among (YieldsNodes groups) words is.0 word is.1 at none

of_words : (Of : Text → List Text → Type 0) (words : AnyWords) (patterns : List Pattern) (word : Text) → ArePatterns Of words patterns → IsAmongWords words word → ((things : List Text) → Of word things → ⊥) → ⊥
of_words Of any.Any patterns word is at none = at
of_words Of (any.Listed words) patterns word is at none = among Of words is.0 word is.1 at none

module _ (l : Lookups) (word : Text) where
  of_row : (row : ShortRow) (rows : List AcceptText) (key : WordKey) → YieldsRows l row rows → IsInRow l row key word → ⊥
  of_row row rows From y h = of_callers l.groups row.from y.from word y.each_caller h.0 h.1
  of_row row rows Class y h = among (YieldsClasses l.classes l.usual l.sets) row.classes y.classes word y.each_class h.0 h.1
  of_row row rows To y h = h
  of_row row rows At y h = h

  of_rule : (rule : ShortRule) (rules : List Routing) (key : WordKey) → YieldsRules l rule rules → IsInRule l rule key word → ⊥
  of_rule rule rules From y h = of_words (YieldsNodes l.groups) rule.from y.froms word y.each_caller h.0 h.1
  of_rule rule rules Class y h = of_words (YieldsClasses l.classes l.usual l.sets) rule.classes y.classes word y.each_class h.0 h.1
  of_rule rule rules To y h = among (YieldsNodes l.groups) rule.to y.to word y.each_target h.0 h.1
  of_rule rule rules At y h = h

  of_flow : (flow : ShortFlow) (flows : List FlowText) (key : WordKey) → YieldsFlows l flow flows → IsInFlow l flow key word → ⊥
  of_flow flow flows From y h = h
  of_flow flow flows Class y h = among (YieldsClasses l.classes l.usual l.sets) flow.classes y.classes word y.each_class h.0 h.1
  of_flow flow flows To y h = among (YieldsNodes l.groups) flow.to y.tos word y.each_to h.0 h.1
  of_flow flow flows At y h = among (YieldsNodes l.groups) flow.at y.ats word y.each_at h.0 h.1

  of_part : (node : ShortNode) (nodes : List NodeText) (part : NodePart) (key : WordKey) → YieldsNode l node nodes → IsInPart l node part key word → ⊥
  of_part node nodes Own key y h = h
  of_part node nodes (AcceptRow index) key y h =
      let found = yielded (YieldsRows l) node.accepts y.accepts index h.0 h.1 y.each_row in
      of_row h.0 found.0 key found.1 h.2
  of_part node nodes (Rule index) key y h =
      let found = yielded (YieldsRules l) node.rules y.rules index h.0 h.1 y.each_rule in
      of_rule h.0 found.0 key found.1 h.2

pub strangers_refute : StrangersRefute
strangers_refute short Root key word plan h means = h
strangers_refute short (OfNode index part) key word plan h means =
    let found = yielded (YieldsNode (lookups_of short)) short.nodes plan.nodes index h.0 h.1 means.nodes in
    of_part (lookups_of short) word h.0 found.0 part key found.1 h.2
strangers_refute short (OfFlow index) key word plan h means =
    let found = yielded (YieldsFlows (lookups_of short)) short.flows plan.flows index h.0 h.1 means.flows in
    of_flow (lookups_of short) word h.0 found.0 key found.1 h.2

too_much : (l : Lookups) (short : ShortPlan) (place : FieldPlace) → IsExcessAt l short place → plan_size l short ≤ most → ⊥
too_much l short Root h within = omega arith
too_much l short (OfNode index Own) h within =
    let part = sum_by-take-le (node_size l) short.nodes (index + 1) in
    let over = h.2.over in
    let room = h.1 in
    omega arith
too_much l short (OfNode index (AcceptRow row)) h within = h
too_much l short (OfNode index (Rule rule)) h within = h
too_much l short (OfFlow index) h within =
    let part = sum_by-take-le (flow_size l) short.flows (index + 1) in
    let over = h.2.over in
    let room = h.1 in
    omega arith

pub excess_refutes : ExcessRefutes
excess_refutes short place h within = too_much (lookups_of short) short place h within
