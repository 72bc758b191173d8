-- What a shelf gives out for a data set, and why it refuses one.
use Rattle.std.specs.Prelude.{◌≡◌, ◌≢◌, ◌≤◌, ℕ, List, Option, Some, None, All, Contains, length}
use Rattle.std.specs.Global.{Global}
use Rattle.std.specs.Prelude.{Vec}
use Rattle.sqlite_disk.specs.declared.Disk.{Ghosts}
use Rattle.sqlite_disk.specs.Disk.{MoreFaults}
use Rattle.dr_store_bodies.specs.declared.bodies.Bodies.{Bodies}
use Rattle.dr_store_bodies.specs.declared.fault.BodyFault.{BodyFault}
use Rattle.dr_store_bodies.specs.declared.fault.BodyFault.TheVariants as body
use Rattle.dr_store_bodies.specs.Bodies.{extents, seen, IsHeld}
use Rattle.dr_store_bodies.specs.Extents.{end_of}
use Rattle.dr_store_shelf.specs.declared.fault.ShelfFault.{ShelfFault}
use Rattle.dr_store_shelf.specs.declared.fault.ShelfFault.TheVariants as fault
use Rattle.dr_store_shelf.specs.declared.shelf.BodyCell.{BodyCell}
use Rattle.dr_store_shelf.specs.declared.shelf.BodyCell.TheVariants.{Itself, Name}
use Rattle.dr_store_shelf.specs.Cells.{EndsWithDigests, Passes, extent_in, shown}

-- the bytes of a cell that was given out for this data set
abbrev pub bytes_of : BodyCell → List ℕ → List ℕ
bytes_of Itself body = body
bytes_of (Name cell) body = cell.items

-- the fault for that of the file
abbrev pub fault_for : BodyFault → ShelfFault
fault_for (body.Io error) = fault.Io error
fault_for body.Memory = fault.Memory
fault_for body.Unusable = fault.Unusable
fault_for body.Misfit = fault.NoCell
fault_for body.Full = fault.Full

-- Why a data set was not put: a call of the disk failed, memory or room is wanting, or a sync
-- failed before.
abbrev pub IsWhyNotPut : (usable : Type 0) → (old new : ℕ) → ShelfFault → Type 0
IsWhyNotPut usable old new (fault.Io error) = MoreFaults old new
IsWhyNotPut usable old new fault.Memory = Unit {0}
IsWhyNotPut usable old new fault.Unusable = usable → ⊥
IsWhyNotPut usable old new fault.Full = Unit {0}
IsWhyNotPut usable old new fault.NoCell = ⊥
IsWhyNotPut usable old new fault.Unreadable = ⊥

-- Why none was read by a cell: the same, or, where no wrong answer of the medium was taken as true,
-- the cell stands for none.
abbrev pub IsWhyNotRead : (usable stands : Type 0) → ShelfFault → Type 0
IsWhyNotRead usable stands (fault.Io error) = Unit {0}
IsWhyNotRead usable stands fault.Memory = Unit {0}
IsWhyNotRead usable stands fault.Unusable = usable → ⊥
IsWhyNotRead usable stands fault.Full = ⊥
IsWhyNotRead usable stands fault.NoCell = stands → ⊥
IsWhyNotRead usable stands fault.Unreadable = stands → ⊥

-- Each cell that was in use is in use still, and stands for what it stood for.
abbrev pub KeepsCells : (Used : List ℕ → Type 0)
    → (Stood : List ℕ → List ℕ → Type 0)
    → (Uses : List ℕ → Type 0)
    → (Stands : List ℕ → List ℕ → Type 0) → Type 0
KeepsCells Used Stood Uses Stands =
    (cell : List ℕ)
    → Used cell
    → Uses cell × ((bytes : List ℕ) → Stood cell bytes → Stands cell bytes)

-- By each cell that was in use the same bytes are shown as before, whether or not it stands for
-- them.
abbrev pub ShowsAsBefore : (Used : List ℕ → Type 0) → (was is : List ℕ → List ℕ) → Type 0
ShowsAsBefore Used was is = (cell : List ℕ) → Used cell → is cell ≡ was cell

-- By each cell that was in use the same bytes can be read as before, or none can as before.
abbrev pub ReadsAsBefore : (Used : List ℕ → Type 0) → (was is : List ℕ → Option (List ℕ)) → Type 0
ReadsAsBefore Used was is = (cell : List ℕ) → Used cell → is cell ≡ was cell

-- the bytes that were found, if any
abbrev pub items_of : Option (Vec ℕ Global) → Option (List ℕ)
items_of None = None
items_of (Some found) = Some found.items

-- two cells name different places
abbrev pub AreApart : List ℕ → List ℕ → Type 0
AreApart cell other = (extent_in cell).at ≢ (extent_in other).at

module _ {D : Type 0} {g : Ghosts D} where
  -- the extent of the cell holds these bytes, now and after a crash at this moment, and they pass
  -- the cell's test
  abbrev pub Stands : ℕ → Bodies D g → List ℕ → List ℕ → Type 0
  Stands key file cell bytes = IsHeld file (extent_in cell) bytes × Passes key cell bytes

  -- the file ends where the last extent in use does, or before
  abbrev pub EndsWithLast : Bodies D g → Type 0
  EndsWithLast file =
      (size : ℕ) → All (λ e. end_of e ≤ size) (extents file) → length (seen file) ≤ size

  -- what is seen at the cell's extent
  abbrev pub shown_by : Bodies D g → List ℕ → List ℕ
  shown_by file cell = shown (seen file) (extent_in cell)

  -- the cell ends with its digests, and its extent is in use
  abbrev pub IsUsed : Bodies D g → List ℕ → Type 0
  IsUsed file cell = EndsWithDigests cell × Contains (extents file) (extent_in cell)
