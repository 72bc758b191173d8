-- What is found for the keys of one cell.
use Rattle.std.specs.Prelude.{◌≡◌, ◌↔◌, ◌⊎◌, List, Contains, Option, Some, None}
use Rattle.dr_base.specs.Texts.{Text}
use Rattle.dr_route.specs.declared.key.Key.{Key}
use Rattle.dr_route.specs.declared.cell.OwnedCell.{OwnedCell}
use Rattle.dr_plan_model.specs.Networks.{Network}
use Rattle.dr_cert_diff.specs.declared.change.RouteChange.{RouteChange}
use Rattle.dr_cert_diff.specs.Differing.{IsLost, IsRight, LiesInBoth}

-- just those of the names that aren't in the set
abbrev pub IsWithout : List Text → List Text → List Text → Type 0
IsWithout names set rest =
    (name : Text) → Contains rest name ↔ (Contains names name × (Contains set name → ⊥))

-- what changes for the keys of the cell that enter at the site; none where nothing does
abbrev pub Compares : Network → Network → Text → OwnedCell → Option RouteChange → Type 0
Compares old new site cell None =
    (key : Key) → LiesInBoth old new cell key → (dest : Text)
    → IsLost old new site key dest ⊎ IsLost new old site key dest
    → ⊥
Compares old new site cell (Some change) =
    IsRight old new change × (change.site ≡ site) × (change.cell ≡ cell)
