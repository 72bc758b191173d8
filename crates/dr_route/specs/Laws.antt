-- Laws of rules and cells.
use Rattle.std.specs.Prelude.{◌≡◌, ◌≢◌, ◌<◌, ◌↔◌, List, ◌∷◌, [], ◌++◌, Contains, All, codes, true}
use Rattle.dr_base.specs.Texts.{Text}
use Rattle.dr_base.specs.declared.syntax.Syntax.TheVariants.{Implicit}
use Rattle.dr_route.specs.Routes.{local, MatchesField, TakesStation, Holds, SendsBy, KeepsBy}
use Rattle.dr_route.specs.Cells.{IsLongest, InCell, SameLiterals}
use Rattle.dr_route.specs.declared.key.Key.{Key}
use Rattle.dr_route.specs.declared.rule.Rule.{Rule}
use Rattle.dr_route.specs.declared.rule.Pattern.TheVariants.{Any}
use Rattle.dr_route.specs.declared.rule.FieldPattern.{FieldPattern}
use Rattle.dr_route.specs.declared.rule.FieldPattern.TheVariants as pattern
use Rattle.dr_route.specs.declared.cell.FieldValues.{FieldValues}
use Rattle.dr_route.specs.declared.cell.OwnedField.{OwnedField}
use Rattle.dr_route.specs.declared.cell.OwnedField.TheVariants as part
use Rattle.dr_route.specs.declared.cell.Literals.{Literals}
use Rattle.dr_route.specs.declared.cell.OwnedCell.{OwnedCell}

-- no rule holds for what enters at the node itself
abbrev pub LocalIsNobody : Type 0
LocalIsNobody = (rule : Rule) (key : Key) → Holds rule local key → ⊥

-- no rule holds for a key whose station is an exception of the rule
abbrev pub ExceptionsAreNotHeld : Type 0
ExceptionsAreNotHeld =
    (rule : Rule) (caller : Text) (key : Key) → Contains rule.except key.station
    → Holds rule caller key
    → ⊥

-- for all other stations a rule holds as it would without its exceptions
abbrev pub OthersAreHeld : Type 0
OthersAreHeld =
    (rule : Rule) (caller : Text) (key : Key) → (Contains rule.except key.station → ⊥)
    → Holds rule caller key ↔ Holds (record rule { except = [] }) caller key

-- a rule without exceptions speaks of the stations that its pattern admits
abbrev pub NoExceptionsAsBefore : Type 0
NoExceptionsAsBefore =
    (rule : Rule) (station : Text) → rule.except ≡ []
    → TakesStation rule station ↔ MatchesField rule.station station

-- a rule for `CT*` but `CT9`
abbrev pub all_but_ct9 : Rule
all_but_ct9 = record {
  «from» = Any;
  class = Any;
  modality = pattern.Any;
  station = pattern.Prefix (codes "CT");
  except = codes "CT9" ∷ [];
  «to» = [];
  keep = true;
}

-- a key of that station
abbrev pub key_at : Text → Key
key_at station = record { class = []; syntax = Implicit; modality = []; station = station }

-- the rule for `CT*` but `CT9` holds for CT1, and neither for CT9 nor for MR1
abbrev pub HoldsForAllButOne : Type 0
HoldsForAllButOne =
    Holds all_but_ct9 (codes "GATE") (key_at (codes "CT1"))
    × (Holds all_but_ct9 (codes "GATE") (key_at (codes "CT9")) → ⊥)
    × (Holds all_but_ct9 (codes "GATE") (key_at (codes "MR1")) → ⊥)

-- the literal of the pattern, or its prefix, is one that the plan names for the field
abbrev pub IsKnown : FieldValues → FieldPattern → Type 0
IsKnown values pattern.Any = Unit {0}
IsKnown values (pattern.Literal literal) = Contains values.literals literal
IsKnown values (pattern.Prefix prefix) = Contains values.prefixes prefix

-- what a rule asks of modality and station is among what the plan names, and so is each exception
abbrev pub IsKnownRule : Literals → Rule → Type 0
IsKnownRule literals rule =
    IsKnown literals.modalities rule.modality
    × IsKnown literals.stations rule.station
    × All (Contains literals.stations.literals) rule.except

-- a rule whose literals the plan names holds for all keys of a cell, or for none
abbrev pub AgreeInHolding : Type 0
AgreeInHolding =
    (literals : Literals) (cell : OwnedCell) (k l : Key)
    → InCell literals cell k → InCell literals cell l → (rule : Rule) → IsKnownRule literals rule
    → (caller : Text) → Holds rule caller k → Holds rule caller l

-- keys of one cell are sent to the same nodes by rules whose literals the plan names
abbrev pub AgreeInSends : Type 0
AgreeInSends =
    (literals : Literals) (cell : OwnedCell) (k l : Key)
    → InCell literals cell k → InCell literals cell l → (rules : List Rule)
    → All (IsKnownRule literals) rules
    → (caller name : Text)
    → SendsBy rules caller k name
    → SendsBy rules caller l name

-- keys of one cell are kept alike by rules whose literals the plan names
abbrev pub AgreeInKeeps : Type 0
AgreeInKeeps =
    (literals : Literals) (cell : OwnedCell) (k l : Key)
    → InCell literals cell k → InCell literals cell l → (rules : List Rule)
    → All (IsKnownRule literals) rules
    → (caller : Text) → KeepsBy rules caller k → KeepsBy rules caller l

-- each key lies in some cell
abbrev pub CellsCover : Type 0
CellsCover = (literals : Literals) (key : Key) → (cell : OwnedCell) × InCell literals cell key

-- each key lies in no more than one cell
abbrev pub CellsAreApart : Type 0
CellsAreApart =
    (literals : Literals) (key : Key) (a b : OwnedCell)
    → InCell literals a key → InCell literals b key → a ≡ b

-- the same values make the same cells
abbrev pub SameValuesMakeSameCells : Type 0
SameValuesMakeSameCells =
    (a b : Literals) → SameLiterals a b → (cell : OwnedCell) (key : Key)
    → InCell a cell key → InCell b cell key

-- no value has two longest prefixes
abbrev pub LongestIsOne : Type 0
LongestIsOne =
    (prefixes : List Text) (a b value : Text)
    → IsLongest prefixes a value
    → IsLongest prefixes b value
    → a ≡ b

-- each byte of each of the texts is below 127, as of printable ASCII
abbrev pub ArePlain : List Text → Type 0
ArePlain texts = All (All (λ byte. byte < 127)) texts

-- a part of the field: a literal that the plan names, a prefix that it names, or the rest
abbrev pub IsPart : FieldValues → OwnedField → Type 0
IsPart values (part.Literal literal) = Contains values.literals literal
IsPart values (part.Prefix prefix) = Contains values.prefixes prefix
IsPart values part.Rest = Unit {0}

-- a value of the part: the literal; the prefix and the byte 128, which no literal and no prefix
-- has; or the text of this byte alone
abbrev pub value_of : OwnedField → Text
value_of (part.Literal literal) = literal
value_of (part.Prefix prefix) = prefix ++ (128 ∷ [])
value_of part.Rest = 128 ∷ []

-- one key of the cell, which stands for all of them
abbrev pub key_of : OwnedCell → Key
key_of cell = record {
  class = cell.class;
  syntax = cell.syntax;
  modality = value_of cell.modality;
  station = value_of cell.station;
}

-- what a plan names for a field is printable ASCII, and no prefix is empty
pub record ArePlainValues (values : FieldValues) : Type 0 where
  pub literals : ArePlain values.literals
  pub prefixes : ArePlain values.prefixes
  pub some : All (λ prefix. prefix ≢ []) values.prefixes

-- each cell has a key in it, where what the plan names is printable ASCII
abbrev pub EachCellHasAKey : Type 0
EachCellHasAKey =
    (literals : Literals) (cell : OwnedCell)
    → ArePlainValues literals.modalities
    → ArePlainValues literals.stations
    → IsPart literals.modalities cell.modality
    → IsPart literals.stations cell.station
    → InCell literals cell (key_of cell)
