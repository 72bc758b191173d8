-- A data set while it is heard: what a scan knows of the bytes so far.
use Rattle.std.specs.Prelude.{◌≡◌, ◌≢◌, ℕ, ◌+◌, ◌<◌, ◌≤◌, Bool, true, false, List, [], ◌∷◌, ◌++◌}
use Rattle.std.specs.Prelude.{length, Option, Some, None, option_map, unwrap_or, Result, Ok, Err}
use Rattle.std.specs.Prelude.{◌⊎◌}
use Rattle.std.proofs.Common.{get_or}
use Rattle.std.specs.Option.{option_copied}
use Rattle.arrayvec.specs.ArrayVec.{ArrayVec}
use Rattle.dr_base.specs.declared.syntax.Syntax.{Syntax}
use Rattle.dr_dataset.specs.declared.fault.DataFault.{DataFault}
use Rattle.dr_dataset.specs.declared.fault.DataFault.TheVariants.{Truncated, Memory}
use Rattle.dr_dataset.specs.declared.header.Tag.{Tag}
use Rattle.dr_dataset.specs.declared.frame.OpenSequence.{OpenSequence}
use Rattle.dr_dataset.specs.declared.token.Token.{Token}
use Rattle.dr_dataset.specs.declared.token.Token.TheVariants.{Value, PlainItem}
use Rattle.dr_dataset.specs.declared.values.Attributes.{Attributes}
use Rattle.dr_dataset.specs.declared.whole.Whole.{Whole}
use Rattle.dr_dataset.specs.declared.caught.Caught.{Caught}
use Rattle.dr_dataset.specs.declared.hearing.Scan.{Scan}
use Rattle.dr_dataset.specs.declared.hearing.ScanPlace.{ScanPlace}
use Rattle.dr_dataset.specs.declared.hearing.ScanPlace.TheVariants.{InHeader, InValue, Failed}
use Rattle.dr_dataset.specs.Elements.{Element}
use Rattle.dr_dataset.specs.DataSet.{is_key, first_value, Opens, FirstFault}
use Rattle.dr_base.specs.Calls.{Calls}
use Rattle.dr_base.specs.Padding.{trimmed}
use Rattle.dr_dataset.specs.Tokens.{token_of, open_behind, is_nested}

-- the bytes that a scan has caught of one of the four values, none where no element with its tag
-- has come
abbrev pub bytes_of_slot : Option (ArrayVec ℕ) → Option (List ℕ)
bytes_of_slot slot = option_map (λ (v : ArrayVec ℕ). v.items) slot

-- the scan has caught the first bytes of each of the four tags in these elements
abbrev pub AreCaught : Caught → List Element → Type 0
AreCaught c es =
    (bytes_of_slot c.class ≡ first_value 0x0008 0x0016 es)
    × (bytes_of_slot c.instance ≡ first_value 0x0008 0x0018 es)
    × (bytes_of_slot c.modality ≡ first_value 0x0008 0x0060 es)
    × (bytes_of_slot c.station ≡ first_value 0x0008 0x1010 es)

-- the value, if there is one, has at most 1024 bytes
abbrev pub IsShort : Option (List ℕ) → Type 0
IsShort None = Unit {0}
IsShort (Some bytes) = length bytes ≤ 1024

-- if the element is one of the four, its value has at most 1024 bytes
abbrev pub IsShortKey : Option Whole → Type 0
IsShortKey None = Unit {0}
IsShortKey (Some w) = is_key w.tag ≡ true → IsShort (option_copied w.value)

-- the header of a value of that many bytes: of an element with that tag, or of an item
abbrev pub value_header : Option Tag → ℕ → Token
value_header None len = PlainItem len
value_header (Some t) len = Value t len

-- whether the bytes of a value are kept: those of one of the four, at the top
abbrev pub is_kept : List OpenSequence → Option Tag → Bool
is_kept [] (Some t) = is_key t
is_kept [] None = false
is_kept (f ∷ fs) t = false

-- each number of the list is a byte, below 256
abbrev pub AreBytes : List ℕ → Type 0
AreBytes text = (i : ℕ) → get_or text i 0 < 256

-- what a scan that stands at this place knows of the text so far
abbrev pub HearsAt : Syntax → List ℕ → Scan → ScanPlace → Type 0
-- behind a front that is in order stand the bytes of a header that isn't whole
HearsAt s text scan InHeader =
    (es : List Element)
    × Opens s scan.scanner.stack text es scan.header.items
    × AreCaught scan.found es
    × (token_of s scan.scanner.stack scan.header.items ≡ Err Truncated)
    × AreBytes scan.header.items
-- or a header and some bytes of its value, of which so many are missing
HearsAt s text scan (InValue t missing) =
    (es : List Element) × (token got : List ℕ)
    × Opens s scan.scanner.stack text es token
    × AreCaught scan.found es
    × (token_of s scan.scanner.stack token ≡ Ok (value_header t (length got + missing), got))
    × (is_kept scan.scanner.stack t ≡ true → scan.value.items ≡ got)
    × (scan.header.items ≡ [])
-- or the first fault has shown
HearsAt s text scan (Failed fault) =
    (fault ≢ Truncated) × (fault ≢ Memory) × FirstFault s text fault

-- the scan has heard this text, in whatever pieces it came
abbrev pub Hears : Syntax → List ℕ → Scan → Type 0
Hears s text scan = (scan.scanner.syntax ≡ s) × HearsAt s text scan scan.place

-- the scan stands at its end, where the first fault has shown
abbrev pub HasFailed : Scan → DataFault → Type 0
HasFailed scan fault = scan.place ≡ Failed fault

-- whatever text the old scan had heard, the new one has heard with these bytes behind it
abbrev pub HearsMore : Scan → List ℕ → Scan → Type 0
HearsMore old bytes new =
    (s : Syntax) (text : List ℕ) → Hears s text old → Hears s (text ++ bytes) new

-- the pieces, one after the other, take the old scan to the new one
abbrev pub GoesOnBy : Scan → List (List ℕ) → Scan → Type 0
GoesOnBy old pieces new = Calls HearsMore old pieces new

-- the new scan has heard what the old one had
abbrev pub HearsAlike : Scan → Scan → Type 0
HearsAlike old new = (s : Syntax) (text : List ℕ) → Hears s text old → Hears s text new

-- What the question for its attributes leaves of a scan. A fault but want of memory stays; else the
-- scan has heard what it had heard before.
abbrev pub Finishes : Scan → Result Attributes DataFault → Scan → Type 0
Finishes old (Ok values) new = HearsAlike old new
Finishes old (Err Memory) new = HearsAlike old new
Finishes old (Err fault) new = HasFailed new fault

-- nothing is wrong with the text so far: it may only be too short, or is a data set
abbrev pub IsInOrderSoFar : Syntax → List ℕ → Type 0
IsInOrderSoFar s text =
    (fault : DataFault) → FirstFault s text fault → (fault ≡ Truncated) ⊎ (fault ≡ Memory)

-- a header with nothing behind it was taken off the front that is in order, and what is open is as
-- behind it
abbrev pub Begun : Syntax → List ℕ → Token → Scan → Type 0
Begun s text token scan =
    (scan.scanner.syntax ≡ s)
    × (scan.place ≡ InHeader) × (scan.header.items ≡ [])
    × ((before : List OpenSequence) × (es : List Element) × (header : List ℕ)
    × Opens s before text es header
    × AreCaught scan.found es
    × (token_of s before header ≡ Ok (token, []))
    × (scan.scanner.stack ≡ open_behind s token before)
    × (is_nested before ≡ true))

-- the text of a value that a scan has caught, without padding (PS3.5 6.2), empty where there is
-- none
abbrev pub text_of_slot : Option (ArrayVec ℕ) → List ℕ
text_of_slot slot = trimmed (unwrap_or (bytes_of_slot slot) [])

-- the attributes are the four values that the scan has caught, trimmed
abbrev pub AreSlots : Caught → Attributes → Type 0
AreSlots c a =
    (a.class ≡ text_of_slot c.class)
    × (a.instance ≡ text_of_slot c.instance)
    × (a.modality ≡ text_of_slot c.modality)
    × (a.station ≡ text_of_slot c.station)
