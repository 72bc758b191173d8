-- What a shelf of either kind shows: that of its kind.
use Rattle.std.specs.Prelude.{◌≡◌, ℕ, Bool, true, false, List, Option, Some, MatchOption}
use Rattle.sqlite_disk.specs.declared.Disk.{Ghosts}
use Rattle.dr_store_bodies.specs.Bodies.{IsClean, IsUsable, faults, seen}
use Rattle.dr_store_shelf.specs.declared.either.LedgerShelf.{LedgerShelf}
use Rattle.dr_store_shelf.specs.declared.either.LedgerShelf.TheVariants.{InRow as Rows}
use Rattle.dr_store_shelf.specs.declared.either.LedgerShelf.TheVariants.{InFile as File}
use Rattle.dr_store_shelf.specs.Cells.{Passes, extent_in, shown}
use Rattle.dr_store_shelf.specs.Held.{apart_from_each_other, held_is_shown, read_stands}
use Rattle.dr_store_shelf.specs.Shelves.{AreApart, EndsWithLast, IsUsed, Stands, shown_by}
use Rattle.dr_store_shelf.specs.Tested.{read_in, read_is, row_held, row_reads}

-- two cells that name places name different ones; of others each can be let go
abbrev pub AreApartIf : Bool → List ℕ → List ℕ → Type 0
AreApartIf true cell other = AreApart cell other
AreApartIf false cell other = Unit {0}

pub apart_swaps : (places : Bool) (cell other : List ℕ) → AreApartIf places cell other
    → AreApartIf places other cell
apart_swaps true cell other apart = apart_from_each_other cell other apart
apart_swaps false cell other apart = apart

module _ {D : Type 0} {g : Ghosts D} where
  abbrev pub named_on : LedgerShelf D g → Bool
  named_on (Rows it) = false
  named_on (File it) = true

  abbrev pub StandsOn : LedgerShelf D g → List ℕ → List ℕ → Type 0
  StandsOn (Rows it) cell bytes = cell ≡ bytes
  StandsOn (File it) cell bytes = Stands it.key it.bodies cell bytes

  abbrev pub UsesOn : LedgerShelf D g → List ℕ → Type 0
  UsesOn (Rows it) cell = Unit {0}
  UsesOn (File it) cell = IsUsed it.bodies cell

  abbrev pub body_on : LedgerShelf D g → List ℕ → List ℕ
  body_on (Rows it) cell = cell
  body_on (File it) cell = shown (seen it.bodies) (extent_in cell)

  abbrev pub PassesOn : LedgerShelf D g → List ℕ → List ℕ → Type 0
  PassesOn (Rows it) cell bytes = cell ≡ bytes
  PassesOn (File it) cell bytes = Passes it.key cell bytes

  abbrev pub read_on : LedgerShelf D g → List ℕ → Option (List ℕ)
  read_on (Rows it) cell = Some cell
  read_on (File it) cell = read_in it.key cell (shown_by it.bodies cell)

  abbrev pub IsNewOn : LedgerShelf D g → Type 0
  IsNewOn (Rows it) = Unit {0}
  IsNewOn (File it) = it.is_cut ≡ false

  abbrev pub EndsOn : LedgerShelf D g → Type 0
  EndsOn (Rows it) = Unit {0}
  EndsOn (File it) = EndsWithLast it.bodies

  abbrev pub IsCleanOn : LedgerShelf D g → Type 0
  IsCleanOn (Rows it) = Unit {0}
  IsCleanOn (File it) = IsClean it.bodies

  abbrev pub IsUsableOn : LedgerShelf D g → Type 0
  IsUsableOn (Rows it) = Unit {0}
  IsUsableOn (File it) = IsUsable it.bodies

  abbrev pub faults_on : LedgerShelf D g → ℕ
  faults_on (Rows it) = 0
  faults_on (File it) = faults it.bodies

  pub only_on : (it : LedgerShelf D g) (cell bytes : List ℕ) → StandsOn it cell bytes
      → body_on it cell ≡ bytes
  only_on (Rows it) cell bytes is = is
  only_on (File it) cell bytes is = held_is_shown _ _ (extent_in cell) bytes is.0

  pub passed_on : (it : LedgerShelf D g) (cell bytes : List ℕ) → StandsOn it cell bytes
      → PassesOn it cell bytes
  passed_on (Rows it) cell bytes is = is
  passed_on (File it) cell bytes is = is.1

  pub reads_on : (it : LedgerShelf D g) (cell : List ℕ)
      → MatchOption (read_on it cell) (PassesOn it cell (body_on it cell) → ⊥)
      (λ bytes. (bytes ≡ body_on it cell) × PassesOn it cell bytes)
  reads_on (Rows it) cell = row_reads cell
  reads_on (File it) cell = read_is it.key cell (shown_by it.bodies cell)

  pub held_on : (it : LedgerShelf D g) (cell bytes : List ℕ) → IsCleanOn it → UsesOn it cell
      → read_on it cell ≡ Some bytes → StandsOn it cell bytes
  held_on (Rows it) cell bytes clean used is = row_held cell bytes is
  held_on (File it) cell bytes clean used is =
      read_stands it.key _ _ _ cell bytes (it.bodies.safe clean) used.1 is
