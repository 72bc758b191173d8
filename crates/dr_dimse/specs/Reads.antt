-- What the private readers of commands promise.
use Rattle.std.specs.Prelude.{◌≡◌, Bool, ℕ, List, map, Result, Ok, Err}
use Rattle.dr_dimse.specs.declared.elements.Element.{Element as Found}
use Rattle.dr_dimse.specs.declared.fault.DimseFault.{DimseFault}
use Rattle.dr_dimse.specs.declared.fault.DimseFault.TheVariants.{BadCommand, Memory}
use Rattle.dr_dimse.specs.declared.command.Command.{Command}
use Rattle.dr_dimse.specs.Commands.{CommandElement, field_of, announces, id_of, status_of, HasIds}
use Rattle.dr_dimse.specs.Commands.{HasTexts}

-- no value meets R, so the bytes are at fault (`BadCommand`); or memory ran out
abbrev pub Refuses : {Y : Type 0} → DimseFault → (Y → Type 0) → Type 0
Refuses {Y} BadCommand R = (y : Y) → R y → ⊥
Refuses Memory R = Unit {0}
Refuses fault R = ⊥

-- a value that meets R, seen by view; or there is none
abbrev pub Reads : {X Y : Type 0} → (X → Y) → Result X DimseFault → (Y → Type 0) → Type 0
Reads view (Ok x) R = R (view x)
Reads view (Err fault) R = Refuses fault R

-- an element that a reader has found, as the grammar sees it
abbrev pub element : Found → CommandElement
element e = record { number = e.number; value = e.value.now }

-- the elements that a reader has found, in order, as the grammar sees them
abbrev pub elements : List Found → List CommandElement
elements es = map element es

-- the elements say this command, whose field and data set type are known
abbrev pub IsOf : List CommandElement → ℕ → Bool → Command → Type 0
IsOf es field has_data c =
    (field_of c ≡ field) × (announces c ≡ has_data)
    × HasIds es (field_of c) (id_of c) (status_of c)
    × HasTexts es c
