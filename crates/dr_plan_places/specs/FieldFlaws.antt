-- What is wrong with the tables of a plan's text, field by field.
use Rattle.std.specs.Prelude.{◌≡◌, ℕ, Option, None, Some, IsSome, codes}
use Rattle.toml.specs.Data.{Data, Items, no_items, Members, as_array, as_table, get_item}
use Rattle.toml.specs.Data.{get_member}
use Rattle.dr_base.specs.Texts.{Text}
use Rattle.dr_route.specs.declared.rule.Rule.{Rule as RuleText}
use Rattle.dr_plan_model.specs.declared.plan.Format.{Format}
use Rattle.dr_plan_model.specs.declared.plan.Format.TheVariants.{One, Two, Three}
use Rattle.dr_plan_text.specs.declared.words.FlowText.{FlowText}
use Rattle.dr_plan_model.specs.Formed.{RuleFits, ValuesFit}
use Rattle.dr_plan_model.specs.Listening.{ListensFits}
use Rattle.dr_plan_text.specs.declared.words.NodeText.{NodeText}
use Rattle.dr_plan_text.specs.Tables.{IsAcceptTable, IsRuleTable, IsNodeTable, IsFlowTable, IsRoot}
use Rattle.dr_plan_text.specs.Tables.{IsFormat}
use Rattle.dr_plan_places.specs.declared.flaw.Flaw.{Flaw}
use Rattle.dr_plan_places.specs.declared.flaw.Wrong.{Wrong}
use Rattle.dr_plan_places.specs.declared.flaw.Wrong.TheVariants.{Missing, Unknown, IllFormed}
use Rattle.dr_plan_places.specs.declared.field_place.FieldPlace.{FieldPlace}
use Rattle.dr_plan_places.specs.declared.field_place.FieldPlace.TheVariants.{Root, OfNode, OfFlow}
use Rattle.dr_plan_places.specs.declared.field_place.NodePart.{NodePart}
use Rattle.dr_plan_places.specs.declared.field_place.NodePart.TheVariants.{Own, AcceptRow, Rule}

-- whatever else stands in a table: where it has what these fields have at this key and at
-- `listens`, on which other keys of a node rest, it isn't of the form
abbrev pub IsAtFault : {X : Type 0} → (Members → X → Type 0) → Members → Text → Type 0
IsAtFault {X} IsTable fields key =
    (other : Members) (x : X)
    → get_member key other ≡ get_member key fields
    → get_member (codes "listens") other ≡ get_member (codes "listens") fields
    → IsTable other x
    → ⊥

-- a field stands at this key, at which no table of the form has one
abbrev pub IsUnknown : {X : Type 0} → (Members → X → Type 0) → Members → Text → Type 0
IsUnknown {X} IsTable fields key =
    IsSome (get_member key fields)
    × ((other : Members) (x : X) → IsTable other x → get_member key other ≡ None)

-- this is wrong with the fields, as those of a table of the form
abbrev pub HasWrong : {X : Type 0} → (Members → X → Type 0) → Members → Text → Wrong → Type 0
HasWrong IsTable fields key Missing = IsAtFault IsTable fields key × (get_member key fields ≡ None)
HasWrong IsTable fields key Unknown = IsUnknown IsTable fields key
HasWrong IsTable fields key IllFormed =
    IsAtFault IsTable fields key × IsSome (get_member key fields)

-- the fields have this flaw
abbrev pub HasFlaw : {X : Type 0} → (Members → X → Type 0) → Members → Flaw → Type 0
HasFlaw IsTable fields flaw = HasWrong IsTable fields flaw.key flaw.wrong

-- the items of an array, if there is one
abbrev pub items_in : Option Items → Items
items_in None = no_items
items_in (Some items) = items

-- the items of the array at a key
abbrev pub items_at : Option Data → Items
items_at None = no_items
items_at (Some value) = items_in (as_array value)

-- the table that a value is
abbrev pub table_in : Option Data → Option Members
table_in None = None
table_in (Some value) = as_table value

-- at this index of the array at the key stands a table with these fields
abbrev pub IsRow : Text → Members → ℕ → Members → Type 0
IsRow key fields index row = table_in (get_item index (items_at (get_member key fields))) ≡ Some row

-- a row of the array at the key has the flaw, or whatever else this says of its fields
abbrev pub InRow : (Members → Type 0) → Text → Members → ℕ → Type 0
InRow P key fields index = (row : Members) × IsRow key fields index row × P row

-- the table says a node of a text of that format
abbrev pub IsNodeOf : Format → Members → NodeText → Type 0
IsNodeOf format fields node = IsNodeTable fields node × ListensFits format node.listens

-- the table says a rule of a text of that format
abbrev pub IsRuleText : Format → Members → RuleText → Type 0
IsRuleText format fields rule = IsRuleTable fields rule × RuleFits format rule

-- the table says a flow of a text of that format
abbrev pub IsFlowOf : Format → Members → FlowText → Type 0
IsFlowOf format fields flow =
    IsFlowTable fields flow × ValuesFit format flow.modalities flow.stations

-- the format as which the tables of a text are looked at: that of the text, and 3 where it is
-- neither 1 nor 2, be that no format at all
abbrev pub IsReadAs : Option Data → Format → Type 0
IsReadAs value One = IsFormat value One
IsReadAs value Two = IsFormat value Two
IsReadAs value Three = (IsFormat value One → ⊥) × (IsFormat value Two → ⊥)

-- the flaw stands in this part of the node's table, in a text of that format
abbrev pub IsInNode : Format → Members → NodePart → Flaw → Type 0
IsInNode format node Own flaw = HasFlaw (IsNodeOf format) node flaw
IsInNode format node (AcceptRow index) flaw =
    InRow (λ row. HasFlaw IsAcceptTable row flaw) (codes "accept") node index
IsInNode format node (Rule index) flaw =
    InRow (λ row. HasFlaw (IsRuleText format) row flaw) (codes "rule") node index

-- the flaw stands at this place of the tables of a text of that format
abbrev pub IsAt : Format → Members → FieldPlace → Flaw → Type 0
IsAt format root Root flaw = HasFlaw IsRoot root flaw
IsAt format root (OfNode index part) flaw =
    InRow (λ node. IsInNode format node part flaw) (codes "node") root index
IsAt format root (OfFlow index) flaw =
    InRow (λ flow. HasFlaw (IsFlowOf format) flow flaw) (codes "flow") root index

-- the flaw stands at this place of the text's tables
abbrev pub IsIn : Members → FieldPlace → Flaw → Type 0
IsIn root place flaw =
    (format : Format)
    × IsReadAs (get_member (codes "format") root) format
    × IsAt format root place flaw
