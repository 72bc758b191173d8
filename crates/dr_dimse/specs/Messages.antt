-- Messages out of presentation data values (PS3.7 section 6.3 and PS3.8 Annex E): a relation
-- between lists of values and messages. A value carries a fragment of a command or of a data set.
use Rattle.std.specs.Prelude.{◌≡◌, ◌⊎◌, ℕ, ◌≤◌, ◌%◌, ◌/◌, Bool, true, false, List, [], ◌∷◌, ◌++◌}
use Rattle.std.specs.Prelude.{length, nat_lt, ◌==◌, if◌then◌else◌, Some, None}
use Rattle.std.specs.List.{flat_map, AllByRecursion}
use Rattle.dr_pdu.specs.declared.pdu.Pdv.{Pdv}
use Rattle.dr_dimse.specs.declared.message.Body.{Body}
use Rattle.dr_dimse.specs.declared.message.Body.TheVariants.{Whole, TooLarge}
use Rattle.dr_dimse.specs.declared.message.Message.{Message}
use Rattle.dr_dimse.specs.Commands.{IsCommand, announces}

-- the value carries a fragment of a command, and not of a data set: bit 0 of its header (PS3.8 E.2)
abbrev pub is_command : Pdv → Bool
is_command p = p.header % 2 == 1

-- the value carries the last fragment of its command or data set: bit 1 of its header (PS3.8 E.2)
abbrev pub is_last : Pdv → Bool
is_last p = p.header / 2 % 2 == 1

-- the fragments of the values, one after the other
abbrev pub joined : List Pdv → List ℕ
joined ps = flat_map (λ (p : Pdv). p.fragment) ps

-- the value is in that context and of that kind: a command, or a data set
abbrev pub IsOfKind : Bool → ℕ → Pdv → Type 0
IsOfKind kind id p = (p.id ≡ id) × (is_command p ≡ kind)

-- values of one kind in one context, none of them the last
abbrev pub AreInner : Bool → ℕ → List Pdv → Type 0
AreInner kind id ps = AllByRecursion (λ p. IsOfKind kind id p × (is_last p ≡ false)) ps

-- values of one kind in one context, the last bit on the last of them and on no other; the text is
-- what they join to
abbrev pub IsWhole : Bool → ℕ → List Pdv → List ℕ → Type 0
IsWhole kind id ps text =
    (front : List Pdv) × (final : Pdv)
    × (ps ≡ front ++ final ∷ [])
    × AreInner kind id front × IsOfKind kind id final × (is_last final ≡ true) × (text ≡ joined ps)

-- a body of up to 64 MiB, or that it is larger
abbrev pub body_of : List ℕ → Body
body_of text = if nat_lt 67108864 (length text) then TooLarge else Whole text

-- the values are the message: a command of at most 16 KiB, and then a data set if the command
-- announces one
abbrev pub IsMessage : List Pdv → Message → Type 0
IsMessage ps m =
    (cs ds : List Pdv) × (text : List ℕ) × (ps ≡ cs ++ ds)
    × IsWhole true m.id cs text
    × (length text ≤ 16384) × IsCommand text m.command
    × ((announces m.command ≡ false) × (ds ≡ []) × (m.body ≡ None)
    ⊎ (announces m.command ≡ true)
    × ((body : List ℕ) × IsWhole false m.id ds body × (m.body ≡ Some (body_of body))))

-- the values are these messages, one after the other, and then the rest
abbrev pub AreMessages : List Pdv → List Message → List Pdv → Type 0
AreMessages ps [] rest = ps ≡ rest
AreMessages ps (m ∷ ms) rest =
    (own more : List Pdv) × (ps ≡ own ++ more) × IsMessage own m × AreMessages more ms rest
