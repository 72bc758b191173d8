-- Laws of what site says: a mark and a seal behind a plan.
use Rattle.std.specs.Prelude.{◌≡◌, ℕ, List}
use Rattle.sqlite.specs.Tree.{Trees}
use Rattle.dr_site.specs.Parts.{Part}
use Rattle.dr_store_sealed.specs.InTables.{seal_said}
use Rattle.dr_store_calls.specs.Owners.{IsOwnedSo, IsPlanWith, seal_in}

-- A cell is of one plan, one mark and one seal, whichever of the last two it has.
abbrev pub CellsAreOfOneSeal : Type 0
CellsAreOfOneSeal =
    (mark seal digest last end other cell : List ℕ)
    → IsPlanWith mark seal digest cell → IsPlanWith last end other cell
    → (digest ≡ other) × (mark ≡ last) × (seal ≡ end)

-- The seal of tables is what those bytes say with which a site owns them, whatever its mark.
abbrev pub SealsAreRead : Type 0
SealsAreRead =
    (mark seal : List ℕ) (part : Part) (db : Trees)
    → IsOwnedSo mark seal part db → seal_in db ≡ seal_said seal
