-- Changes that are gathered cell by cell.
use Rattle.std.specs.Prelude.{◌≡◌, ◌↔◌, ◌⊎◌, List, Contains}
use Rattle.dr_base.specs.Texts.{Text}
use Rattle.dr_base.specs.declared.syntax.Syntax.{Syntax}
use Rattle.dr_base.specs.declared.syntax.Syntax.TheVariants.{Implicit, Explicit}
use Rattle.dr_route.specs.Laws.{IsPart}
use Rattle.dr_route.specs.declared.key.Key.{Key}
use Rattle.dr_route.specs.declared.cell.OwnedCell.{OwnedCell}
use Rattle.dr_route.specs.declared.cell.OwnedField.{OwnedField}
use Rattle.dr_plan_model.specs.Networks.{Network}
use Rattle.dr_plan_model.specs.Walks.{IsEntry}
use Rattle.dr_cert_diff.specs.declared.change.RouteChange.{RouteChange}
use Rattle.dr_cert_diff.specs.declared.parts.FieldParts.{FieldParts}
use Rattle.dr_cert_diff.specs.Differing.{IsRight, IsInAChange, LiesInBoth, literals_of_both}

-- what is added is right, nothing is taken away, and what changes for the keys of which `P` speaks
-- is there
pub record Adds (old new : Network) (P : Text → Key → Type 0)
    (before after : List RouteChange) : Type 0 where
  pub right : ((change : RouteChange) → Contains before change → IsRight old new change)
      → (change : RouteChange) → Contains after change → IsRight old new change
  pub kept : (change : RouteChange) → Contains before change → Contains after change
  pub whole : (site : Text) (key : Key) → P site key → IsInAChange old new after site key

-- what one of the elements says
abbrev pub Over : {X : Type 0} → List X → (X → Text → Key → Type 0) → Text → Key → Type 0
Over {X} xs P site key = (x : X) × Contains xs x × P x site key

-- the keys of a cell that enter at a site
abbrev pub At : Network → Network → Text → OwnedCell → Text → Key → Type 0
At old new at cell site key = (site ≡ at) × LiesInBoth old new cell key

-- the cell with this class and transfer syntax, and these parts
abbrev pub cell_at : Text → Syntax → OwnedField → OwnedField → OwnedCell
cell_at class syntax modality station =
    record { class = class; syntax = syntax; modality = modality; station = station }

-- the keys of these cells
abbrev pub AtModality : Network → Network → Text → Text → Syntax → List OwnedField → OwnedField
    → Text → Key → Type 0
AtModality old new at class syntax stations modality =
    Over stations (λ station. At old new at (cell_at class syntax modality station))

-- the keys of a class and a transfer syntax
abbrev pub AtPair : Network → Network → Text → Text → Syntax → FieldParts → Text → Key → Type 0
AtPair old new at class syntax parts =
    Over parts.modalities.items (AtModality old new at class syntax parts.stations.items)

-- the keys of a class, in either transfer syntax
abbrev pub AtClass : Network → Network → Text → FieldParts → Text → Text → Key → Type 0
AtClass old new at parts class site key =
    AtPair old new at class Implicit parts site key
    ⊎ AtPair old new at class Explicit parts site key

-- the keys that enter at the site by one of the plans
abbrev pub AtSite : Network → Network → Text → Text → Key → Type 0
AtSite old new at site key = (site ≡ at) × (IsEntry old site key ⊎ IsEntry new site key)

-- just the parts of the modalities and of the stations that neither plan tells apart
pub record ArePartsOf (old new : Network) (parts : FieldParts) : Type 0 where
  pub modalities : (part : OwnedField)
      → Contains parts.modalities.items part ↔ IsPart (literals_of_both old new).modalities part
  pub stations : (part : OwnedField)
      → Contains parts.stations.items part ↔ IsPart (literals_of_both old new).stations part
