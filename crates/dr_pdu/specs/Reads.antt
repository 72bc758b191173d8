-- What the private readers of the decoder and writers of the encoder promise.
use Rattle.std.specs.Prelude.{◌≡◌, List, ◌++◌, map, Result, Ok, Err}
use Rattle.dr_pdu.specs.declared.items.PduItem.{PduItem as Found}
use Rattle.dr_pdu.specs.declared.fault.PduFault.{PduFault}
use Rattle.dr_pdu.specs.declared.fault.PduFault.TheVariants.{BadItem, Memory}
use Rattle.dr_pdu.specs.Items.{Item}

-- no value meets R, so the bytes are at fault (`BadItem`); or memory ran out
abbrev pub Refuses : {Y : Type 0} → PduFault → (Y → Type 0) → Type 0
Refuses {Y} BadItem R = (y : Y) → R y → ⊥
Refuses Memory R = Unit {0}
Refuses fault R = ⊥

-- a value that meets R, seen by view; or there is none
abbrev pub Reads : {X Y : Type 0} → (X → Y) → Result X PduFault → (Y → Type 0) → Type 0
Reads view (Ok x) R = R (view x)
Reads view (Err fault) R = Refuses fault R

-- an item that a reader has found, as the grammar sees it
abbrev pub item : Found → Item
item i = record { kind = i.kind; body = i.body.now }

-- the items that a reader has found, in order, as the grammar sees them
abbrev pub items : List Found → List Item
items is = map item is
