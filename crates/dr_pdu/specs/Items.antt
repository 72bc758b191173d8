-- The parts that PDUs are made of (PS3.8 section 9.3). A text is a list of bytes; a number has its
-- most significant byte first.
use Rattle.std.specs.Prelude.{◌≡◌, ℕ, ◌+◌, ◌<◌, ◌^◌, List, [], ◌∷◌, ◌++◌, length, map, filter, ◌==◌}
use Rattle.std.specs.Prelude.{Option, slice_get}
use Rattle.std.specs.Int.{w16, w32, to_be_bytes}
use Rattle.dr_base.specs.Runs.{Run}
use Rattle.dr_pdu.specs.declared.pdu.Pdv.{Pdv}

-- ---- items and sub-items (9.3.2.1 to 9.3.3.3, Annex D)

-- an item or a sub-item, but for its reserved byte
pub record Item : Type 0 where
  pub kind : ℕ
  pub body : List ℕ

-- an item as it is written: type, reserved byte, length (2), body (PS3.8 9.3.2)
abbrev pub item_text : ℕ → Item → List ℕ
item_text reserved i = i.kind ∷ reserved ∷ (to_be_bytes w16 (length i.body) ++ i.body)

-- the text begins with the item, whatever its reserved byte, and then the rest follows
abbrev pub StartsPduItem : List ℕ → Item → List ℕ → Type 0
StartsPduItem text i rest =
    (reserved : ℕ) × (length i.body < 2 ^ 16) × (text ≡ item_text reserved i ++ rest)

-- the text is these items, one after the other
abbrev pub AreItems : List Item → List ℕ → Type 0
AreItems is text = Run StartsPduItem is text []

-- the bodies of the items of one type, in order
abbrev pub bodies : ℕ → List Item → List (List ℕ)
bodies kind is = map (λ i. i.body) (filter (λ i. i.kind == kind) is)

-- the body of the first item of a type: a later one of it counts for nothing
abbrev pub first_body : ℕ → List Item → Option (List ℕ)
first_body kind is = slice_get (bodies kind is) 0

-- ---- presentation data values (9.3.5.1)

-- a presentation data value as it is written: length (4, of what follows), context id, message
-- control header, fragment
abbrev pub pdv_text : Pdv → List ℕ
pdv_text p = to_be_bytes w32 (2 + length p.fragment) ++ p.id ∷ p.header ∷ p.fragment

-- the text begins with the presentation data value, and then the rest follows
abbrev pub StartsPdv : List ℕ → Pdv → List ℕ → Type 0
StartsPdv text p rest = (2 + length p.fragment < 2 ^ 32) × (text ≡ pdv_text p ++ rest)
