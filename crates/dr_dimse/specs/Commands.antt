-- Command sets (PS3.7 section 9 and Annex E): a relation between texts and commands. A command set
-- is in Implicit VR Little Endian, and all its elements are of group 0000. They come in any order,
-- unknown ones are skipped, and of a repeated one the first counts, so all is said of the list of
-- the elements.
use Rattle.std.specs.Prelude.{◌≡◌, ◌≢◌, ◌⊎◌, ℕ, ◌^◌, ◌<◌, ◌≤◌, Bool, true, not, List, [], ◌∷◌, ◌++◌}
use Rattle.std.specs.Prelude.{length, map, filter, ◌==◌, Option, Some, None, IfSome, slice_get}
use Rattle.std.specs.Prelude.{Result, Ok, Err}
use Rattle.std.specs.Int.{w16, w32, to_le_bytes}
use Rattle.dr_base.specs.Runs.{Run}
use Rattle.dr_base.specs.Padding.{unpadded}
use Rattle.dr_base.specs.Uids.{IsUid}
use Rattle.dr_dimse.specs.declared.fault.DimseFault.{DimseFault}
use Rattle.dr_dimse.specs.declared.fault.DimseFault.TheVariants.{BadCommand, Memory}
use Rattle.dr_dimse.specs.declared.command.Command.{Command}
use Rattle.dr_dimse.specs.declared.command.Command.TheVariants.{StoreRq, StoreRsp, EchoRq, EchoRsp}
use Rattle.dr_dimse.specs.declared.command.Command.TheVariants.{Other}

-- ---- elements

-- an element of group 0000: its number in the group, and its value
pub record CommandElement : Type 0 where
  pub number : ℕ
  pub value : List ℕ

-- an element as it is written, in the implicit syntax: tag (4), length (4), value (PS3.7 6.3.1,
-- PS3.5 7.1.3)
abbrev pub element_text : CommandElement → List ℕ
element_text e = 0 ∷ 0 ∷ (to_le_bytes w16 e.number ++ (to_le_bytes w32 (length e.value) ++ e.value))

-- the text begins with the element, whose length isn't the undefined one, FFFFFFFFH
abbrev pub StartsCommandElement : List ℕ → CommandElement → List ℕ → Type 0
StartsCommandElement text e rest =
    (e.number < 2 ^ 16) × (length e.value < 0xFFFFFFFF) × (text ≡ element_text e ++ rest)

-- the values of the elements of one number, in order
abbrev pub values : ℕ → List CommandElement → List (List ℕ)
values number es = map (λ e. e.value) (filter (λ e. e.number == number) es)

-- the value of the first element of a number: a later one of it counts for nothing
abbrev pub first_value : ℕ → List CommandElement → Option (List ℕ)
first_value number es = slice_get (values number es) 0

-- ---- values

-- a text without the NULs and spaces at its end; it is empty where its element is missing
abbrev pub text_of : Option (List ℕ) → List ℕ
text_of None = []
text_of (Some value) = unpadded value

-- the text of the first element of a number, empty where there is none
abbrev pub text_at : ℕ → List CommandElement → List ℕ
text_at number es = text_of (first_value number es)

-- the element is there, and is the number n of two bytes
abbrev pub HasNumber : List CommandElement → ℕ → ℕ → Type 0
HasNumber es number n = (n < 2 ^ 16) × (first_value number es ≡ Some (to_le_bytes w16 n))

-- if the element is there, it has two bytes
abbrev pub HasTwoBytes : List CommandElement → ℕ → Type 0
HasTwoBytes es number = IfSome (first_value number es) (λ value. length value ≡ 2)

-- each number of a command but the group length has two bytes; a later element of its tag counts
-- for nothing
abbrev pub AreNumbers : List CommandElement → Type 0
AreNumbers es =
    HasTwoBytes es 0x0100 × HasTwoBytes es 0x0110 × HasTwoBytes es 0x0120 × HasTwoBytes es 0x0700
    × HasTwoBytes es 0x0800 × HasTwoBytes es 0x0900 × HasTwoBytes es 0x1031

-- ---- what the elements say

-- the command field 0100 (PS3.7 E.1): 8000H and above are answers, 0FFFH is a cancel
abbrev pub field_of : Command → ℕ
field_of (StoreRq id class instance) = 0x0001
field_of (StoreRsp to status class instance has_data) = 0x8001
field_of (EchoRq id class has_data) = 0x0030
field_of (EchoRsp to status class has_data) = 0x8030
field_of (Other field id status has_data) = field

-- the message's id, or the id of the message that it answers
abbrev pub id_of : Command → Option ℕ
id_of (StoreRq id class instance) = Some id
id_of (StoreRsp to status class instance has_data) = Some to
id_of (EchoRq id class has_data) = Some id
id_of (EchoRsp to status class has_data) = Some to
id_of (Other field id status has_data) = id

-- the status of an answer, (0000,0900) (PS3.7 annex C); requests have none
abbrev pub status_of : Command → Option ℕ
status_of (StoreRsp to status class instance has_data) = Some status
status_of (EchoRsp to status class has_data) = Some status
status_of (Other field id status has_data) = status
status_of c = None

-- whether a data set follows; one does behind a C-STORE-RQ
abbrev pub announces : Command → Bool
announces (StoreRq id class instance) = true
announces (StoreRsp to status class instance has_data) = has_data
announces (EchoRq id class has_data) = has_data
announces (EchoRsp to status class has_data) = has_data
announces (Other field id status has_data) = has_data

-- the field isn't that of a command with a name of its own
abbrev pub HasNoName : ℕ → Type 0
HasNoName field = (field ≢ 0x0001) × (field ≢ 0x8001) × (field ≢ 0x0030) × (field ≢ 0x8030)

-- the data set type 0800: 0101H says that none follows
abbrev pub Announces : List CommandElement → Bool → Type 0
Announces es has_data = (n : ℕ) × HasNumber es 0x0800 n × (has_data ≡ not (n == 0x0101))

-- A cancel needs neither id nor status. Any other request has the message id 0110, an answer the id
-- 0120 of what it answers, and the status 0900.
abbrev pub HasIds : List CommandElement → ℕ → Option ℕ → Option ℕ → Type 0
HasIds es field id status =
    (field ≡ 0x0FFF) × (id ≡ None) × (status ≡ None)
    ⊎ ((field ≢ 0x0FFF) × (field < 0x8000)
    × ((n : ℕ) × (id ≡ Some n) × HasNumber es 0x0110 n)
    × (status ≡ None)
    ⊎ (0x8000 ≤ field)
    × ((n : ℕ) × (id ≡ Some n) × HasNumber es 0x0120 n)
    × ((n : ℕ) × (status ≡ Some n) × HasNumber es 0x0900 n))

-- the affected SOP class 0002 and SOP instance 1000, which must be UIDs in a C-STORE-RQ
abbrev pub HasTexts : List CommandElement → Command → Type 0
HasTexts es (StoreRq id class instance) =
    (class ≡ text_at 0x0002 es) × (instance ≡ text_at 0x1000 es) × IsUid class × IsUid instance
HasTexts es (StoreRsp to status class instance has_data) =
    (class ≡ text_at 0x0002 es) × (instance ≡ text_at 0x1000 es)
HasTexts es (EchoRq id class has_data) = class ≡ text_at 0x0002 es
HasTexts es (EchoRsp to status class has_data) = class ≡ text_at 0x0002 es
HasTexts es (Other field id status has_data) = HasNoName field

-- the elements say this command: its field, ids, status and texts, and whether a data set follows
abbrev pub SayCommand : List CommandElement → Command → Type 0
SayCommand es c =
    HasNumber es 0x0100 (field_of c)
    × Announces es (announces c)
    × HasIds es (field_of c) (id_of c) (status_of c)
    × HasTexts es c

-- the text, all of it, is a spelling of the command
abbrev pub IsCommand : List ℕ → Command → Type 0
IsCommand text c =
    (es : List CommandElement)
    × Run StartsCommandElement es text []
    × AreNumbers es × SayCommand es c

-- what reading a text answers: its command, or that it is none; or memory ran out
abbrev pub ReadsCommand : List ℕ → Result Command DimseFault → Type 0
ReadsCommand text (Ok c) = IsCommand text c
ReadsCommand text (Err BadCommand) = (c : Command) → IsCommand text c → ⊥
ReadsCommand text (Err Memory) = Unit {0}
ReadsCommand text (Err fault) = ⊥
