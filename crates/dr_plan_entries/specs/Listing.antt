-- What flows take in that list their modalities or their stations, and take in no others.
use Rattle.std.specs.Prelude.{◌≡◌, ℕ, List, Contains, Some, slice_get}
use Rattle.dr_base.specs.Texts.{Text, IsInByteOrder}
use Rattle.dr_route.specs.declared.cell.OwnedField.{OwnedField}
use Rattle.dr_route.specs.declared.cell.FieldValues.{FieldValues}
use Rattle.dr_route.specs.Laws.{IsPart}
use Rattle.dr_plan_model.specs.Networks.{Network}
use Rattle.dr_plan_model.specs.Plans.{literals_of}
use Rattle.dr_plan_model.specs.declared.listed.Listed.{Listed}
use Rattle.dr_plan_model.specs.declared.plan.Flow.{Flow}
use Rattle.dr_plan_model.specs.declared.plan.Values.{Values}
use Rattle.dr_plan_model.specs.Naming.{listed_literals}
use Rattle.dr_plan_sound.specs.Printed.{printed_field}
use Rattle.dr_plan_entries.specs.Entering.{AdmitsField, IsLiteralOf}
use Rattle.dr_plan_entries.specs.InOrder.{IsInPrintedOrder}
use Rattle.dr_plan_entries.specs.declared.rows.FlowSide.{FlowSide}
use Rattle.dr_plan_entries.specs.declared.rows.FlowSide.TheVariants.{Modality, Station}

-- the values take in these literals at most
abbrev pub TakesListed : Values → List Text → Type 0
TakesListed values literals =
    (field : OwnedField) → AdmitsField values field → IsLiteralOf literals field

-- what a flow says of the attribute
abbrev pub values_of : FlowSide → Flow → Values
values_of Modality flow = flow.modalities
values_of Station flow = flow.stations

-- what the plan names of the attribute
abbrev pub named_of : FlowSide → Network → FieldValues
named_of Modality plan = (literals_of plan).modalities
named_of Station plan = (literals_of plan).stations

-- the set of the single values that a flow lists of the attribute
abbrev pub set_of : FlowSide → Listed → List Text
set_of Modality sets = sets.modalities
set_of Station sets = sets.stations

-- the flow takes in these literals at most, of the one attribute
abbrev pub TakesAtMost : FlowSide → Flow → List Text → Type 0
TakesAtMost side flow literals = TakesListed (values_of side flow) literals

-- the single values that the flow lists of the attribute
abbrev pub listed_of : FlowSide → Flow → List Text
listed_of side flow = listed_literals (values_of side flow)

-- the flow lists these literals, and takes in no others
pub record TakesJust (side : FlowSide) (flow : Flow) (literals : List Text) : Type 0 where
  pub named : (t : Text) → Contains literals t → Contains (listed_of side flow) t
  pub most : TakesAtMost side flow literals

-- a flow at one of the places lists the literal
abbrev pub SomeLists : FlowSide → List Flow → List ℕ → Text → Type 0
SomeLists side flows among t =
    (k : ℕ) × Contains among k
    × ((flow : Flow) × (slice_get flows k ≡ Some flow) × Contains (listed_of side flow) t)

-- the flows at the places list these literals, which stand in byte order and each once, and take in
-- no others
pub record AreNamed (side : FlowSide) (flows : List Flow) (among : List ℕ)
    (literals : List Text) : Type 0 where
  pub named : (t : Text) → Contains literals t → SomeLists side flows among t
  pub most : (k : ℕ) (flow : Flow) → Contains among k
      → slice_get flows k ≡ Some flow
      → TakesAtMost side flow literals
  pub ordered : IsInByteOrder literals

-- a row of parts of the plan's modalities, or of its stations, in the order in which they are
-- printed, that has all those that the flows at the places take in
pub record IsRow (side : FlowSide) (plan : Network) (among : List ℕ)
    (row : List OwnedField) : Type 0 where
  pub parts : (part : OwnedField) → Contains row part → IsPart (named_of side plan) part
  pub whole : (k : ℕ) (flow : Flow) (part : OwnedField)
      → Contains among k
      → slice_get plan.flows k ≡ Some flow
      → AdmitsField (values_of side flow) part
      → IsPart (named_of side plan) part
      → Contains row part
  pub ordered : IsInPrintedOrder printed_field row
