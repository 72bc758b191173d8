-- Cells: the keys with one class, one transfer syntax, and for modality and for station one literal
-- of the plan, the values under one of its prefixes, or none of them.
use Rattle.std.specs.Prelude.{◌≡◌, ◌↔◌, ◌≤◌, List, length, Contains}
use Rattle.dr_base.specs.Texts.{Text, IsInByteOrder, Begins}
use Rattle.dr_route.specs.declared.key.Key.{Key}
use Rattle.dr_route.specs.declared.cell.FieldValues.{FieldValues}
use Rattle.dr_route.specs.declared.cell.Literals.{Literals}
use Rattle.dr_route.specs.declared.cell.OwnedField.{OwnedField}
use Rattle.dr_route.specs.declared.cell.OwnedField.TheVariants.{Literal, Prefix, Rest}
use Rattle.dr_route.specs.declared.cell.Field.{Field}
use Rattle.dr_route.specs.declared.cell.Field.TheVariants as borrowed
use Rattle.dr_route.specs.declared.cell.OwnedCell.{OwnedCell}

-- the part of a field that a borrowed one stands for
abbrev pub owned_field : Field → OwnedField
owned_field (borrowed.Literal literal) = Literal literal.now
owned_field (borrowed.Prefix prefix) = Prefix prefix.now
owned_field borrowed.Rest = Rest

-- the value begins with this prefix of the list, and with no longer one
pub record IsLongest (prefixes : List Text) (prefix value : Text) : Type 0 where
  pub among : Contains prefixes prefix
  pub begins : Begins prefix value
  pub longest : (other : Text) → Contains prefixes other → Begins other value
      → length other ≤ length prefix

-- the value begins with no prefix of the list
abbrev pub HasNoPrefix : List Text → Text → Type 0
HasNoPrefix prefixes value = (prefix : Text) → Contains prefixes prefix → Begins prefix value → ⊥

-- the value lies in that part of the field: it is the literal; or it is no literal, and the part
-- is its longest prefix or, if it has none, the rest
abbrev pub InField : FieldValues → OwnedField → Text → Type 0
InField values (Literal literal) value =
    Contains values.literals literal × (literal ≡ value)
InField values (Prefix prefix) value =
    (Contains values.literals value → ⊥) × IsLongest values.prefixes prefix value
InField values Rest value =
    (Contains values.literals value → ⊥) × HasNoPrefix values.prefixes value

-- the same literals, and the same prefixes
pub record SameValues (a b : FieldValues) : Type 0 where
  pub literals : (text : Text) → Contains a.literals text ↔ Contains b.literals text
  pub prefixes : (text : Text) → Contains a.prefixes text ↔ Contains b.prefixes text

-- the same values for each field
pub record SameLiterals (a b : Literals) : Type 0 where
  pub modalities : SameValues a.modalities b.modalities
  pub stations : SameValues a.stations b.stations

-- the literals and the prefixes of a field stand in byte order, each once
pub record IsOrdered (values : FieldValues) : Type 0 where
  pub literals : IsInByteOrder values.literals
  pub prefixes : IsInByteOrder values.prefixes

-- the values that the plan names for each field stand in byte order, each once
pub record AreInOrder (literals : Literals) : Type 0 where
  pub modalities : IsOrdered literals.modalities
  pub stations : IsOrdered literals.stations

-- the key lies in the cell: same class and transfer syntax, and modality and station in the cell's
-- parts
pub record InCell (literals : Literals) (cell : OwnedCell) (key : Key) : Type 0 where
  pub class : cell.class ≡ key.class
  pub syntax : cell.syntax ≡ key.syntax
  pub modality : InField literals.modalities cell.modality key.modality
  pub station : InField literals.stations cell.station key.station
