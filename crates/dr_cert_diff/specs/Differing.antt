-- What changes from one plan to another, over all keys and all nodes where they enter.
use Rattle.std.specs.Prelude.{◌≡◌, ◌≢◌, ◌↔◌, ◌⊎◌, List, [], ◌++◌, Contains}
use Rattle.dr_base.specs.Texts.{Text}
use Rattle.dr_route.specs.Routes.{local}
use Rattle.dr_route.specs.Cells.{InCell}
use Rattle.dr_route.specs.Laws.{key_of}
use Rattle.dr_route.specs.declared.key.Key.{Key}
use Rattle.dr_route.specs.declared.cell.FieldValues.{FieldValues}
use Rattle.dr_route.specs.declared.cell.Literals.{Literals}
use Rattle.dr_route.specs.declared.cell.OwnedCell.{OwnedCell}
use Rattle.dr_plan_model.specs.Networks.{Network}
use Rattle.dr_plan_model.specs.Plans.{literals_of}
use Rattle.dr_plan_model.specs.Walks.{IsDestination}
use Rattle.dr_cert_diff.specs.declared.change.RouteChange.{RouteChange}

-- the literals and the prefixes of the one and of the other
abbrev pub values_of_both : FieldValues → FieldValues → FieldValues
values_of_both old new =
    record { literals = old.literals ++ new.literals; prefixes = old.prefixes ++ new.prefixes }

-- what the one plan or the other names for modality and for station, which parts all keys into
-- cells that neither tells apart
abbrev pub literals_of_both : Network → Network → Literals
literals_of_both old new = record {
  modalities = values_of_both (literals_of old).modalities (literals_of new).modalities;
  stations = values_of_both (literals_of old).stations (literals_of new).stations;
}

-- the key lies in that cell of both plans
abbrev pub LiesInBoth : Network → Network → OwnedCell → Key → Type 0
LiesInBoth old new cell key = InCell (literals_of_both old new) cell key

-- by the first plan the node keeps the key that enters at the site, and not by the second
abbrev pub IsLost : Network → Network → Text → Key → Text → Type 0
IsLost old new site key dest =
    IsDestination old local site key dest × (IsDestination new local site key dest → ⊥)

-- The change is so for each key of its cell, and there is one: exactly the nodes that don't keep it
-- any more, and exactly those that keep it now and didn't.
pub record IsRight (old new : Network) (change : RouteChange) : Type 0 where
  pub some_key : LiesInBoth old new change.cell (key_of change.cell)
  pub lost : (key : Key) → LiesInBoth old new change.cell key → (dest : Text)
      → Contains change.lost dest ↔ IsLost old new change.site key dest
  pub gained : (key : Key) → LiesInBoth old new change.cell key → (dest : Text)
      → Contains change.gained dest ↔ IsLost new old change.site key dest
  pub some : (change.lost ≢ []) ⊎ (change.gained ≢ [])

-- what changes for the key that enters at the site is in some change
abbrev pub IsInAChange : Network → Network → List RouteChange → Text → Key → Type 0
IsInAChange old new changes site key =
    (dest : Text) → IsLost old new site key dest ⊎ IsLost new old site key dest
    → (change : RouteChange)
    × Contains changes change
    × (change.site ≡ site)
    × LiesInBoth old new change.cell key

-- just what changes, for all keys and wherever they enter
pub record IsDiff (old new : Network) (changes : List RouteChange) : Type 0 where
  pub right : (change : RouteChange) → Contains changes change → IsRight old new change
  pub whole : (site : Text) (key : Key) → IsInAChange old new changes site key

-- some change loses a node that kept
abbrev pub LosesSome : List RouteChange → Type 0
LosesSome changes = (change : RouteChange) × Contains changes change × (change.lost ≢ [])
