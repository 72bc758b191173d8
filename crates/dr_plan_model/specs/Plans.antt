-- The nodes of a plan, and the values that it names.
use Rattle.std.specs.Prelude.{◌≡◌, List, ◌++◌, Contains, flat_map, map as mapped}
use Rattle.std.specs.Prelude.{IsPermutation, IsSorted}
use Rattle.dr_base.specs.Texts.{Text, text_cmp}
use Rattle.dr_route.specs.declared.cell.FieldValues.{FieldValues}
use Rattle.dr_route.specs.declared.cell.Literals.{Literals}
use Rattle.dr_route.specs.declared.cell.OwnedCell.{OwnedCell}
use Rattle.dr_route.specs.declared.key.Key.{Key}
use Rattle.dr_route.specs.Cells.{InCell, SameLiterals, AreInOrder}
use Rattle.dr_plan_model.specs.declared.plan.Node.{Node}
use Rattle.dr_plan_model.specs.declared.literals.Attribute.{Attribute}
use Rattle.dr_plan_model.specs.declared.literals.Attribute.TheVariants.{Modality, ModalityPrefix}
use Rattle.dr_plan_model.specs.declared.literals.Attribute.TheVariants.{Station, StationPrefix}
use Rattle.dr_plan_model.specs.Networks.{Network}
use Rattle.dr_plan_model.specs.Naming.{named_by_rules, named_by_flows}
use Rattle.dr_plan_model.specs.Formed.{AreWellFormed}

-- the plan's nodes and flows are well-formed
abbrev pub IsWellFormed : Network → Type 0
IsWellFormed plan = AreWellFormed plan.format plan.nodes plan.flows

-- a node of the plan, by its name
abbrev pub IsNode : Network → Text → Node → Type 0
IsNode plan name node = Contains plan.nodes node × (node.name ≡ name)

-- the one node of the plan with that name
abbrev pub IsTheNode : Network → Text → Node → Type 0
IsTheNode plan name node =
    IsNode plan name node × ((other : Node) → IsNode plan name other → other ≡ node)

-- no node of the plan has that name
abbrev pub NamesNoNode : Network → Text → Type 0
NamesNoNode plan name = (node : Node) → IsNode plan name node → ⊥

-- the names of the plan's nodes, in byte order
pub record AreNames (plan : Network) (names : List Text) : Type 0 where
  pub all : IsPermutation (mapped (λ node. node.name) plan.nodes) names
  pub sorted : IsSorted text_cmp names

-- the values that the plan names, in its rules and in its flows
abbrev pub named_in : Attribute → Network → List Text
named_in attribute plan =
    flat_map (λ (node : Node). named_by_rules attribute node.rules) plan.nodes
    ++ named_by_flows attribute plan.flows

-- what the plan names for modality
abbrev pub modalities_of : Network → FieldValues
modalities_of plan = record {
  literals = named_in Modality plan;
  prefixes = named_in ModalityPrefix plan;
}

-- what the plan names for station
abbrev pub stations_of : Network → FieldValues
stations_of plan = record {
  literals = named_in Station plan;
  prefixes = named_in StationPrefix plan;
}

-- the modalities and stations that the plan names, which part all keys into cells
abbrev pub literals_of : Network → Literals
literals_of plan = record { modalities = modalities_of plan; stations = stations_of plan }

-- the values are those that the plan names, each in byte order and each once
pub record AreLiteralsOf (plan : Network) (literals : Literals) : Type 0 where
  pub same : SameLiterals literals (literals_of plan)
  pub ordered : AreInOrder literals

-- the key lies in that cell of the plan
abbrev pub LiesIn : Network → OwnedCell → Key → Type 0
LiesIn plan cell key = InCell (literals_of plan) cell key
