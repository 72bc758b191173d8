-- Where a plan of format 3 stands for more than a plan may.
use Rattle.std.specs.Prelude.{◌≡◌, ℕ, ◌+◌, ◌<◌, ◌≤◌, List, length, sum_by, take}
use Rattle.dr_plan_expand.specs.Meanings.{Lookups}
use Rattle.dr_plan_expand.specs.Amounts.{most, definitions_size, node_size, flow_size}
use Rattle.dr_plan_expand.specs.declared.short.ShortPlan.{ShortPlan}
use Rattle.dr_plan_places.specs.declared.field_place.FieldPlace.{FieldPlace}
use Rattle.dr_plan_places.specs.declared.field_place.FieldPlace.TheVariants.{Root, OfNode, OfFlow}
use Rattle.dr_plan_places.specs.declared.field_place.NodePart.TheVariants.{Own, AcceptRow, Rule}

-- there is room for the elements before this index, and none for the one that stands there
pub record IsOverAt {X : Type 0} (size : X → ℕ) (xs : List X) (room index : ℕ) : Type 0 where
  pub inside : index < length xs
  pub before : sum_by size (take index xs) ≤ room
  pub over : room < sum_by size (take (index + 1) xs)

-- how much the plan's sets and groups are
abbrev pub defined : ShortPlan → ℕ
defined short = definitions_size short.sets + definitions_size short.groups

-- the plan's tables up to this one are within the bound, and with it they aren't
abbrev pub IsExcessAt : Lookups → ShortPlan → FieldPlace → Type 0
IsExcessAt l short Root = most < defined short
IsExcessAt l short (OfNode index Own) =
    (room : ℕ) × (defined short + room ≡ most) × IsOverAt (node_size l) short.nodes room index
IsExcessAt l short (OfNode index (AcceptRow row)) = ⊥
IsExcessAt l short (OfNode index (Rule rule)) = ⊥
IsExcessAt l short (OfFlow index) =
    (room : ℕ)
    × (defined short + (sum_by (node_size l) short.nodes + room) ≡ most)
    × IsOverAt (flow_size l) short.flows room index
