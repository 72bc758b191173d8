-- One key of a cell, of which a row speaks if it speaks of any.
use Rattle.std.specs.Prelude.{◌≡◌, ◌⊎◌, ◌++◌, ◌∷◌, []}
use Rattle.dr_base.specs.Texts.{Text, Begins}
use Rattle.dr_route.specs.Laws.{value_of}
use Rattle.dr_route.specs.declared.key.Key.{Key}
use Rattle.dr_route.specs.declared.rule.FieldPattern.{FieldPattern}
use Rattle.dr_route.specs.declared.rule.FieldPattern.TheVariants.{Any, Literal, Prefix}
use Rattle.dr_route.specs.declared.cell.OwnedCell.{OwnedCell}
use Rattle.dr_plan_expect.specs.declared.words.Expectation.{Expectation}

-- the value that the pattern asks for, and the other where it will do; else the prefix and the byte
-- 128, which no value of a plan has
abbrev pub IsSampleValue : FieldPattern → Text → Text → Type 0
IsSampleValue Any own sample = sample ≡ own
IsSampleValue (Literal literal) own sample = sample ≡ literal
IsSampleValue (Prefix prefix) own sample =
    (Begins prefix own × (sample ≡ own))
    ⊎ ((Begins prefix own → ⊥) × (sample ≡ prefix ++ (128 ∷ [])))

-- the key has the cell's class and transfer syntax, and of the others what the row asks for
pub record IsSample (row : Expectation) (cell : OwnedCell) (key : Key) : Type 0 where
  pub class : key.class ≡ cell.class
  pub syntax : key.syntax ≡ cell.syntax
  pub modality : IsSampleValue row.modality (value_of cell.modality) key.modality
  pub station : IsSampleValue row.station (value_of cell.station) key.station
