-- Where instances enter, in terms of flows and the parts of a cell.
use Rattle.std.specs.Prelude.{◌≡◌, ℕ, ◌<◌, ◌↔◌, ◌⊎◌, List, length, Contains, Some, slice_get, All}
use Rattle.dr_base.specs.Texts.{Text}
use Rattle.dr_base.specs.declared.syntax.Syntax.{Syntax}
use Rattle.dr_route.specs.declared.cell.OwnedField.{OwnedField}
use Rattle.dr_route.specs.declared.cell.OwnedField.TheVariants.{Literal, Prefix, Rest}
use Rattle.dr_route.specs.declared.cell.OwnedCell.{OwnedCell}
use Rattle.dr_route.specs.declared.cell.FieldValues.{FieldValues}
use Rattle.dr_route.specs.Laws.{IsPart}
use Rattle.dr_plan_model.specs.Networks.{Network}
use Rattle.dr_plan_model.specs.Laws.{IsCellOf}
use Rattle.dr_plan_model.specs.Plans.{literals_of}
use Rattle.dr_plan_model.specs.declared.plan.Flow.{Flow}
use Rattle.dr_plan_model.specs.Walks.{BeginsOne}
use Rattle.dr_plan_model.specs.declared.plan.Values.{Values}
use Rattle.dr_plan_model.specs.declared.plan.Values.TheVariants as values
use Rattle.dr_plan_sound.specs.Printed.{printed_field}
use Rattle.dr_plan_entries.specs.InOrder.{IsInPrintedOrder}
use Rattle.dr_plan_entries.specs.declared.fields.ShownPart.{ShownPart}
use Rattle.dr_plan_entries.specs.declared.narrow.Part.{Part}
use Rattle.dr_plan_entries.specs.declared.narrow.Part.TheVariants as part

-- the values of a flow take in the part of the field: all of them do where any value will; else a
-- literal is listed or begins with a listed prefix, and a prefix begins with a listed one, as all
-- of its values then do
abbrev pub AdmitsField : Values → OwnedField → Type 0
AdmitsField values.Any field = Unit {0}
AdmitsField (values.Listed own) (Literal literal) =
    Contains own.literals literal ⊎ BeginsOne own.prefixes literal
AdmitsField (values.Listed own) (Prefix prefix) = BeginsOne own.prefixes prefix
AdmitsField (values.Listed own) Rest = ⊥

-- the flow speaks of the value: the site, a class, a transfer syntax, or a part of modality or
-- station
abbrev pub SpeaksOf : Flow → Part → Type 0
SpeaksOf flow (part.Site site) = flow.at ≡ site.now
SpeaksOf flow (part.Class class) = Contains flow.classes class.now
SpeaksOf flow (part.Syntax syntax) = Contains flow.syntaxes syntax
SpeaksOf flow (part.Modality field) = AdmitsField flow.modalities field.now
SpeaksOf flow (part.Station part) = AdmitsField flow.stations part.now

-- the flow at that place of the list speaks of the value
abbrev pub SpeaksAt : List Flow → ℕ → Part → Type 0
SpeaksAt flows k part = (flow : Flow) × (slice_get flows k ≡ Some flow) × SpeaksOf flow part

-- no flow at one of the places speaks of the value
abbrev pub NoneSpeaks : List Flow → List ℕ → Part → Type 0
NoneSpeaks flows among part = (k : ℕ) → Contains among k → SpeaksAt flows k part → ⊥

-- each of the numbers is a place in the list of flows
abbrev pub AllBelow : List ℕ → List Flow → Type 0
AllBelow among flows = All (λ k. k < length flows) among

-- just the places among those at which a flow speaks of the value
abbrev pub AreNarrowed : List Flow → List ℕ → Part → List ℕ → Type 0
AreNarrowed flows among part found =
    (k : ℕ)
    → Contains found k
    ↔ (Contains among k × ((flow : Flow) × (slice_get flows k ≡ Some flow) × SpeaksOf flow part))

-- the flow takes in the keys of the cell
pub record TakesIn (flow : Flow) (cell : OwnedCell) : Type 0 where
  pub class : Contains flow.classes cell.class
  pub syntax : Contains flow.syntaxes cell.syntax
  pub modality : AdmitsField flow.modalities cell.modality
  pub station : AdmitsField flow.stations cell.station

-- a flow at one of the places takes in the keys of the cell
abbrev pub SomeTakes : List Flow → List ℕ → OwnedCell → Type 0
SomeTakes flows among cell =
    (k : ℕ) × Contains among k
    × ((flow : Flow) × (slice_get flows k ≡ Some flow) × TakesIn flow cell)

-- each flow at one of the places speaks of the value
abbrev pub EachSpeaks : List Flow → List ℕ → Part → Type 0
EachSpeaks flows among part =
    (k : ℕ) (flow : Flow) → Contains among k → slice_get flows k ≡ Some flow → SpeaksOf flow part

-- an entry, as a site and a cell of the plan: some flow at the site takes the cell in
abbrev pub WantsAny : Network → Text → OwnedCell → Type 0
WantsAny plan s c =
    IsCellOf plan c × ((flow : Flow) × Contains plan.flows flow × (flow.at ≡ s) × TakesIn flow c)

-- the entries at one site, as far as the flows at these places take them in
abbrev pub WantsSite : Network → Text → List ℕ → Text → OwnedCell → Type 0
WantsSite plan site among s c = (s ≡ site) × IsCellOf plan c × SomeTakes plan.flows among c

-- the entries at one site, of one class
abbrev pub WantsClass : Network → Text → Text → List ℕ → Text → OwnedCell → Type 0
WantsClass plan site class among s c = (c.class ≡ class) × WantsSite plan site among s c

-- the entries at one site, of one class in one transfer syntax
abbrev pub WantsSyntax : Network → Text → Text → Syntax → List ℕ → Text → OwnedCell → Type 0
WantsSyntax plan site class syntax among s c =
    (c.syntax ≡ syntax) × WantsClass plan site class among s c

-- the entries at one site, of one class in one transfer syntax and of one part of modality
abbrev pub WantsModality : Network → Text → Text → Syntax → OwnedField → List ℕ → Text → OwnedCell
    → Type 0
WantsModality plan site class syntax modality among s c =
    (c.modality ≡ modality) × WantsSyntax plan site class syntax among s c

-- the entry at one site of one class, transfer syntax and parts of modality and station: one cell
abbrev pub WantsStation : Network → Text → Text → Syntax → OwnedField → OwnedField → List ℕ → Text
    → OwnedCell → Type 0
WantsStation plan site class syntax modality station among s c =
    (c.station ≡ station) × WantsModality plan site class syntax modality among s c

-- the part of the field is one of these literals
abbrev pub IsLiteralOf : List Text → OwnedField → Type 0
IsLiteralOf literals (Literal literal) = Contains literals literal
IsLiteralOf literals (Prefix prefix) = ⊥
IsLiteralOf literals Rest = ⊥

-- the list has just the parts of a field of the plan: its literals, its prefixes, and the rest
abbrev pub ArePartsOf : FieldValues → List OwnedField → Type 0
ArePartsOf values fields = (field : OwnedField) → Contains fields field ↔ IsPart values field

-- the part of the field, without its text
abbrev pub part_of : ShownPart → OwnedField
part_of shown = shown.part

-- the text is the one by which the part is printed
abbrev pub HasItsText : ShownPart → Type 0
HasItsText shown = shown.text ≡ printed_field shown.part

-- the two lists have just the parts of a plan's modality and of its station, in the order in which
-- they are printed
abbrev pub HasParts : Network → List OwnedField → List OwnedField → Type 0
HasParts plan modalities stations =
    ArePartsOf (literals_of plan).modalities modalities
    × ArePartsOf (literals_of plan).stations stations
    × IsInPrintedOrder printed_field modalities
    × IsInPrintedOrder printed_field stations

-- each class of a flow at one of the places is in the row
abbrev pub HasClasses : List Flow → List ℕ → List Text → Type 0
HasClasses flows among row =
    (k : ℕ) (flow : Flow) (class : Text)
    → Contains among k
    → slice_get flows k ≡ Some flow
    → Contains flow.classes class
    → Contains row class

-- the site of each flow is in the row
abbrev pub HasSites : List Flow → List Text → Type 0
HasSites flows row = (flow : Flow) → Contains flows flow → Contains row flow.at

-- the flow is at the site and has the class
abbrev pub FitsClass : Flow → Text → Text → Type 0
FitsClass flow site class = Contains flow.classes class × (flow.at ≡ site)

-- the flow is at the site and has the class and the transfer syntax
abbrev pub FitsSyntax : Flow → Text → Text → Syntax → Type 0
FitsSyntax flow site class syntax = Contains flow.syntaxes syntax × FitsClass flow site class

-- the flow is at the site, has the class and the transfer syntax, and takes in that part of
-- modality
abbrev pub FitsModality : Flow → Text → Text → Syntax → OwnedField → Type 0
FitsModality flow site class syntax modality =
    AdmitsField flow.modalities modality × FitsSyntax flow site class syntax

-- the flow is at the site and takes in the class, the transfer syntax and the parts of modality and
-- station
abbrev pub FitsAll : Flow → Text → Text → Syntax → OwnedField → OwnedField → Type 0
FitsAll flow site class syntax modality station =
    AdmitsField flow.stations station × FitsModality flow site class syntax modality
