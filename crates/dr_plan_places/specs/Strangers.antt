-- Where a plan of format 3 has a word that nobody defines.
use Rattle.std.specs.Prelude.{◌≡◌, ℕ, List, Some, slice_get}
use Rattle.dr_base.specs.Texts.{Text}
use Rattle.dr_route.specs.declared.accept.Callers.{Callers}
use Rattle.dr_route.specs.declared.accept.Callers.TheVariants as callers
use Rattle.dr_plan_expand.specs.declared.short.AnyWords.{AnyWords}
use Rattle.dr_plan_expand.specs.declared.short.AnyWords.TheVariants as any
use Rattle.dr_plan_expand.specs.Meanings.{Lookups, lookups_of}
use Rattle.dr_plan_expand.specs.Words.{YieldsClasses, YieldsNodes}
use Rattle.dr_plan_expand.specs.declared.short.ShortRow.{ShortRow}
use Rattle.dr_plan_expand.specs.declared.short.ShortRule.{ShortRule}
use Rattle.dr_plan_expand.specs.declared.short.ShortNode.{ShortNode}
use Rattle.dr_plan_expand.specs.declared.short.ShortFlow.{ShortFlow}
use Rattle.dr_plan_expand.specs.declared.short.ShortPlan.{ShortPlan}
use Rattle.dr_plan_places.specs.declared.field_place.FieldPlace.{FieldPlace}
use Rattle.dr_plan_places.specs.declared.field_place.FieldPlace.TheVariants.{Root, OfNode, OfFlow}
use Rattle.dr_plan_places.specs.declared.field_place.NodePart.{NodePart}
use Rattle.dr_plan_places.specs.declared.field_place.NodePart.TheVariants.{Own, AcceptRow, Rule}
use Rattle.dr_plan_places.specs.declared.strangers.WordKey.{WordKey}
use Rattle.dr_plan_places.specs.declared.strangers.WordKey.TheVariants.{From, Class, To, At}

-- the word stands for no node, be it alone or in a group
abbrev pub IsNoNode : Lookups → Text → Type 0
IsNoNode l word = (names : List Text) → YieldsNodes l.groups word names → ⊥

-- the word stands for no class, be it alone or in a set
abbrev pub IsNoClass : Lookups → Text → Type 0
IsNoClass l word = (uids : List Text) → YieldsClasses l.classes l.usual l.sets word uids → ⊥

-- the word stands in the list
abbrev pub IsAmong : List Text → Text → Type 0
IsAmong words word = (index : ℕ) × (slice_get words index ≡ Some word)

-- the word stands among the callers of a row
abbrev pub IsAmongCallers : Callers → Text → Type 0
IsAmongCallers callers.Any word = ⊥
IsAmongCallers (callers.Listed words) word = IsAmong words word

-- the word stands in a field of a rule
abbrev pub IsAmongWords : AnyWords → Text → Type 0
IsAmongWords any.Any word = ⊥
IsAmongWords (any.Listed words) word = IsAmong words word

-- the word of this field of the row stands for nothing
abbrev pub IsInRow : Lookups → ShortRow → WordKey → Text → Type 0
IsInRow l row From word = IsAmongCallers row.from word × IsNoNode l word
IsInRow l row Class word = IsAmong row.classes word × IsNoClass l word
IsInRow l row To word = ⊥
IsInRow l row At word = ⊥

-- the word of this field of the rule does
abbrev pub IsInRule : Lookups → ShortRule → WordKey → Text → Type 0
IsInRule l rule From word = IsAmongWords rule.from word × IsNoNode l word
IsInRule l rule Class word = IsAmongWords rule.classes word × IsNoClass l word
IsInRule l rule To word = IsAmong rule.to word × IsNoNode l word
IsInRule l rule At word = ⊥

-- the word of this field of the flow does
abbrev pub IsInFlow : Lookups → ShortFlow → WordKey → Text → Type 0
IsInFlow l flow From word = ⊥
IsInFlow l flow Class word = IsAmong flow.classes word × IsNoClass l word
IsInFlow l flow To word = IsAmong flow.to word × IsNoNode l word
IsInFlow l flow At word = IsAmong flow.at word × IsNoNode l word

-- the word of this part of the node does
abbrev pub IsInPart : Lookups → ShortNode → NodePart → WordKey → Text → Type 0
IsInPart l node Own key word = ⊥
IsInPart l node (AcceptRow index) key word =
    (row : ShortRow) × (slice_get node.accepts index ≡ Some row) × IsInRow l row key word
IsInPart l node (Rule index) key word =
    (rule : ShortRule) × (slice_get node.rules index ≡ Some rule) × IsInRule l rule key word

-- the word at this place of the plan does
abbrev pub IsStrangerAt : Lookups → ShortPlan → FieldPlace → WordKey → Text → Type 0
IsStrangerAt l short Root key word = ⊥
IsStrangerAt l short (OfNode index part) key word =
    (node : ShortNode) × (slice_get short.nodes index ≡ Some node) × IsInPart l node part key word
IsStrangerAt l short (OfFlow index) key word =
    (flow : ShortFlow) × (slice_get short.flows index ≡ Some flow) × IsInFlow l flow key word

-- no word of the plan does
abbrev pub HasNoStranger : Lookups → ShortPlan → Type 0
HasNoStranger l short =
    (place : FieldPlace) (key : WordKey) (word : Text) → IsStrangerAt l short place key word → ⊥

-- the word at this place of the plan stands for nothing by the tables of the standard and of the
-- product, and by the plan's own sets and groups
abbrev pub IsStranger : ShortPlan → FieldPlace → WordKey → Text → Type 0
IsStranger short place key word = IsStrangerAt (lookups_of short) short place key word
