-- The one spelling that is written: the group length first, then the elements in the order of their
-- tags, and texts of even length.
use Rattle.std.specs.Prelude.{◌≡◌, ◌≢◌, ◌⊎◌, ℕ, ◌%◌, ◌^◌, ◌<◌, ◌≤◌, Bool, true, List, [], ◌∷◌, ◌++◌}
use Rattle.std.specs.Prelude.{length, ◌==◌, nat_le, if◌then◌else◌, Option, Some, None}
use Rattle.std.specs.Int.{w16, w32, to_le_bytes}
use Rattle.std.specs.List.{flat_map}
use Rattle.dr_base.specs.Padding.{unpadded}
use Rattle.dr_dimse.specs.declared.command.Command.{Command}
use Rattle.dr_dimse.specs.declared.command.Command.TheVariants.{StoreRq, StoreRsp, EchoRq, EchoRsp}
use Rattle.dr_dimse.specs.declared.command.Command.TheVariants.{Other}
use Rattle.dr_base.specs.Uids.{IsUid}
use Rattle.dr_dimse.specs.Commands.{CommandElement, element_text, HasNoName}

-- a text of even length: a NUL is put behind one of odd length (PS3.5 9.1)
abbrev pub even : List ℕ → List ℕ
even text = if length text % 2 == 0 then text else text ++ 0 ∷ []

-- the element of a text, padded to even length
abbrev pub text_element : ℕ → List ℕ → CommandElement
text_element number text = record { number = number; value = even text }

-- the element of a number of two bytes, the least significant first
abbrev pub number_element : ℕ → ℕ → CommandElement
number_element number n = record { number = number; value = to_le_bytes w16 n }

-- the data set type: 0001H where one follows, 0101H where none does
abbrev pub data_element : Bool → CommandElement
data_element has_data = number_element 0x0800 (if has_data then 0x0001 else 0x0101)

-- the element of a number that only some commands have, such as the status; none where it is
-- missing
abbrev pub if_some : ℕ → Option ℕ → List CommandElement
if_some number None = []
if_some number (Some n) = number_element number n ∷ []

-- the elements of a command behind its group length, in the order of their tags
abbrev pub elements_of : Command → List CommandElement
elements_of (StoreRq id class instance) =
    text_element 0x0002 class ∷ number_element 0x0100 0x0001 ∷ number_element 0x0110 id
    ∷ number_element 0x0700 0 ∷ data_element true ∷ text_element 0x1000 instance ∷ []
elements_of (StoreRsp to status class instance has_data) =
    text_element 0x0002 class ∷ number_element 0x0100 0x8001 ∷ number_element 0x0120 to
    ∷ data_element has_data ∷ number_element 0x0900 status ∷ text_element 0x1000 instance ∷ []
elements_of (EchoRq id class has_data) =
    text_element 0x0002 class ∷ number_element 0x0100 0x0030 ∷ number_element 0x0110 id
    ∷ data_element has_data ∷ []
elements_of (EchoRsp to status class has_data) =
    text_element 0x0002 class ∷ number_element 0x0100 0x8030 ∷ number_element 0x0120 to
    ∷ data_element has_data ∷ number_element 0x0900 status ∷ []
elements_of (Other field id status has_data) =
    number_element 0x0100 field
    ∷ (if_some (if nat_le 0x8000 field then 0x0120 else 0x0110) id
    ++ (data_element has_data ∷ if_some 0x0900 status))

-- what elements are written as, one after the other
abbrev pub element_texts : List CommandElement → List ℕ
element_texts es = flat_map element_text es

-- the group length 0000, which counts the bytes behind its element
abbrev pub group_length : List CommandElement → CommandElement
group_length es = record { number = 0; value = to_le_bytes w32 (length (element_texts es)) }

-- the spelling of a command: the group length, and then its other elements
abbrev pub written : Command → List ℕ
written c = element_texts (group_length (elements_of c) ∷ elements_of c)

-- ---- what can be written

-- a text that is read as it was written, and that a command of 16,384 bytes can have
abbrev pub IsText : List ℕ → Type 0
IsText text = (unpadded text ≡ text) × (length text ≤ 16384)

-- the number fits an element of two bytes
abbrev pub IsNumber : ℕ → Type 0
IsNumber n = n < 2 ^ 16

-- the id and the status are there just where a field needs them
abbrev pub FieldFits : ℕ → Option ℕ → Option ℕ → Type 0
FieldFits field id status =
    (field ≡ 0x0FFF) × (id ≡ None) × (status ≡ None)
    ⊎ ((field ≢ 0x0FFF) × (field < 0x8000)
    × ((n : ℕ) × (id ≡ Some n) × IsNumber n)
    × (status ≡ None)
    ⊎ (0x8000 ≤ field)
    × ((n : ℕ) × (id ≡ Some n) × IsNumber n)
    × ((n : ℕ) × (status ≡ Some n) × IsNumber n))

-- the command can be written so that it is read again
abbrev pub CommandFits : Command → Type 0
CommandFits (StoreRq id class instance) = IsNumber id × IsUid class × IsUid instance
CommandFits (StoreRsp to status class instance has_data) =
    IsNumber to × IsNumber status × IsText class × IsText instance
CommandFits (EchoRq id class has_data) = IsNumber id × IsText class
CommandFits (EchoRsp to status class has_data) = IsNumber to × IsNumber status × IsText class
CommandFits (Other field id status has_data) =
    IsNumber field × HasNoName field × FieldFits field id status
