-- Laws of walks.
use Rattle.std.specs.Prelude.{◌≡◌, ◌≢◌, ◌↔◌, List, [], Contains, None}
use Rattle.dr_base.specs.Texts.{Text}
use Rattle.dr_route.specs.Routes.{local}
use Rattle.dr_route.specs.Cells.{InField}
use Rattle.dr_route.specs.Laws.{IsPart, key_of}
use Rattle.dr_route.specs.declared.cell.FieldValues.{FieldValues}
use Rattle.dr_route.specs.declared.cell.OwnedField.{OwnedField}
use Rattle.dr_route.specs.declared.cell.OwnedField.TheVariants as part
use Rattle.dr_route.specs.declared.key.Key.{Key}
use Rattle.dr_route.specs.declared.cell.OwnedCell.{OwnedCell}
use Rattle.dr_route.specs.declared.rule.Rule.{Rule}
use Rattle.dr_plan_model.specs.Networks.{Network}
use Rattle.dr_plan_model.specs.declared.plan.Format.TheVariants.{One, Two, Three}
use Rattle.dr_plan_model.specs.declared.plan.Node.{Node}
use Rattle.dr_plan_model.specs.declared.listens.Listens.TheVariants.{Nowhere, At}
use Rattle.dr_plan_model.specs.Plans.{LiesIn, IsWellFormed, literals_of, modalities_of}
use Rattle.dr_plan_model.specs.Plans.{stations_of}
use Rattle.dr_plan_model.specs.Walks.{Sends, Keeps, IsEntry, IsWalk, IsReached}

-- what enters at the node itself isn't kept there
abbrev pub LocalNeverKeeps : Type 0
LocalNeverKeeps = (plan : Network) (name : Text) (key : Key) → Keeps plan name local key → ⊥

-- no node is named as the local caller
abbrev pub LocalIsNoNode : Type 0
LocalIsNoNode =
    (plan : Network) → IsWellFormed plan
    → (name caller : Text) (key : Key)
    → Sends plan name caller key local
    → ⊥

-- keys of one cell of the plan are sent alike
abbrev pub SendAlike : Type 0
SendAlike =
    (plan : Network) (cell : OwnedCell) (k l : Key)
    → LiesIn plan cell k → LiesIn plan cell l → (name caller to : Text)
    → Sends plan name caller k to
    → Sends plan name caller l to

-- keys of one cell of the plan are kept alike
abbrev pub KeepAlike : Type 0
KeepAlike =
    (plan : Network) (cell : OwnedCell) (k l : Key)
    → LiesIn plan cell k → LiesIn plan cell l → (name caller : Text) → Keeps plan name caller k
    → Keeps plan name caller l

-- keys of one cell of the plan enter at the same sites
abbrev pub EnterAlike : Type 0
EnterAlike =
    (plan : Network) (cell : OwnedCell) (k l : Key)
    → LiesIn plan cell k → LiesIn plan cell l → (site : Text) → IsEntry plan site k
    → IsEntry plan site l

-- keys of one cell of the plan walk alike
abbrev pub WalkAlike : Type 0
WalkAlike =
    (plan : Network) (cell : OwnedCell) (k l : Key)
    → LiesIn plan cell k → LiesIn plan cell l
    → (caller name : Text) (over : List Text)
    → IsWalk plan k caller name over
    → IsWalk plan l caller name over

-- keys of one cell of the plan are brought to the same nodes by the same callers
abbrev pub ReachAlike : Type 0
ReachAlike =
    (plan : Network) (cell : OwnedCell) (k l : Key)
    → LiesIn plan cell k → LiesIn plan cell l → (caller name : Text)
    → IsReached plan k caller name
    → IsReached plan l caller name

-- a cell of the plan: its two parts are parts of the plan's fields
abbrev pub IsCellOf : Network → OwnedCell → Type 0
IsCellOf plan cell =
    IsPart (literals_of plan).modalities cell.modality
    × IsPart (literals_of plan).stations cell.station

-- each cell of a plan has a key of bytes
abbrev pub EachCellOfAPlanHasAKey : Type 0
EachCellOfAPlanHasAKey =
    (plan : Network) → IsWellFormed plan → (cell : OwnedCell) → IsCellOf plan cell
    → LiesIn plan cell (key_of cell)

-- each exception of a rule of a plan is a literal of the plan's stations
abbrev pub ExceptionsAreNamed : Type 0
ExceptionsAreNamed =
    (plan : Network) (node : Node) (rule : Rule) (text : Text)
    → Contains plan.nodes node → Contains node.rules rule → Contains rule.except text
    → Contains (stations_of plan).literals text

-- before format 3 no rule of a plan has exceptions
abbrev pub EarlierHaveNoExceptions : Type 0
EarlierHaveNoExceptions =
    (plan : Network) → IsWellFormed plan → plan.format ≢ Three → (node : Node) (rule : Rule)
    → Contains plan.nodes node → Contains node.rules rule
    → rule.except ≡ []

-- a plan of format 1 names no prefix
abbrev pub FormatOneHasNoPrefix : Type 0
FormatOneHasNoPrefix =
    (plan : Network) → IsWellFormed plan → plan.format ≡ One
    → ((modalities_of plan).prefixes ≡ []) × ((stations_of plan).prefixes ≡ [])

-- a plan of format 2 names no prefix of a modality
abbrev pub FormatTwoHasNoPrefix : Type 0
FormatTwoHasNoPrefix =
    (plan : Network) → IsWellFormed plan → plan.format ≡ Two → (modalities_of plan).prefixes ≡ []

-- the parts of a field where there are no prefixes: one of these literals, or none of them
abbrev pub InPlainField : List Text → OwnedField → Text → Type 0
InPlainField literals (part.Literal literal) value =
    Contains literals literal × (literal ≡ value)
InPlainField literals (part.Prefix prefix) value = ⊥
InPlainField literals part.Rest value = Contains literals value → ⊥

-- the values lie in the parts in which they lay before there were prefixes
abbrev pub KeepsItsParts : FieldValues → Type 0
KeepsItsParts values =
    (part : OwnedField) (value : Text)
    → InField values part value ↔ InPlainField values.literals part value

-- a plan of format 1 has the cells that it had before there were prefixes
abbrev pub FormatOneKeepsItsCells : Type 0
FormatOneKeepsItsCells =
    (plan : Network) → IsWellFormed plan → plan.format ≡ One
    → KeepsItsParts (modalities_of plan) × KeepsItsParts (stations_of plan)

-- a plan of format 2 has the parts of modalities that it had before there were prefixes of these
abbrev pub FormatTwoKeepsItsModalities : Type 0
FormatTwoKeepsItsModalities =
    (plan : Network) → IsWellFormed plan → plan.format ≡ Two → KeepsItsParts (modalities_of plan)

-- a node of a plan that listens nowhere accepts nothing
abbrev pub NowhereAcceptsNothing : Type 0
NowhereAcceptsNothing =
    (plan : Network) → IsWellFormed plan → (node : Node) → Contains plan.nodes node
    → node.listens ≡ Nowhere → node.accepts ≡ []

-- before format 3 each node of a plan listens, and binds to the address by which others reach it
abbrev pub EarlierBindToTheirAddress : Type 0
EarlierBindToTheirAddress =
    (plan : Network) → IsWellFormed plan → plan.format ≢ Three
    → (node : Node) → Contains plan.nodes node
    → (address : Text) × (node.listens ≡ At address None)
