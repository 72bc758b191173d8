-- The next token of a data set under what is open, and what is open behind it.
use Rattle.std.specs.Prelude.{ℕ, Bool, true, false, List, [], ◌∷◌, ◌==◌, ◌&&◌, nat_lt}
use Rattle.std.specs.Prelude.{if◌then◌else◌, Option, Some, None, Result, Ok, Err}
use Rattle.dr_base.specs.declared.syntax.Syntax.{Syntax}
use Rattle.dr_dataset.specs.declared.fault.DataFault.{DataFault}
use Rattle.dr_dataset.specs.declared.fault.DataFault.TheVariants.{Truncated, BadLength, TooDeep}
use Rattle.dr_dataset.specs.declared.header.Tag.{Tag}
use Rattle.dr_dataset.specs.declared.header.HeaderForm.{HeaderForm}
use Rattle.dr_dataset.specs.declared.frame.OpenSequence.{OpenSequence}
use Rattle.dr_dataset.specs.declared.frame.OpenSequence.TheVariants.{InSequence, InItem}
use Rattle.dr_dataset.specs.declared.token.Token.{Token}
use Rattle.dr_dataset.specs.declared.token.Token.TheVariants.{Value, Sequence, PlainItem, Item}
use Rattle.dr_dataset.specs.declared.token.Token.TheVariants.{ItemEnd, SequenceEnd}
use Rattle.dr_dataset.specs.Elements.{undefined, item_group, inside}
use Rattle.dr_dataset.specs.DataSet.{has_tag, is_key, in_force, open_sequences}
use Rattle.dr_dataset.specs.Reading.{long_of, tag_of, form_of}

-- a sequence, unless as many are open as may be
abbrev pub sequence_token : Bool → Tag → List ℕ → Option Syntax → Result (Token × List ℕ) DataFault
sequence_token full t rest None = Err BadLength
sequence_token true t rest (Some within) = Err TooDeep
sequence_token false t rest (Some within) = Ok (Sequence t within, rest)

-- an element in the top level of a data set has to be short if it is one of the four
abbrev pub value_token : Bool → Tag → ℕ → List ℕ → Result (Token × List ℕ) DataFault
value_token true t len rest = Err BadLength
value_token false t len rest = Ok (Value t len, rest)

-- one of the four, at the top level, of more than 1024 bytes: longer than is read
abbrev pub is_long_key : Bool → Tag → ℕ → Bool
is_long_key top t len = top && (is_key t && nat_lt 1024 len)

-- the token of an element by whether its length is undefined: a sequence then, and else a value
abbrev pub element_token_by : Bool → Syntax → Bool → Bool → Tag → HeaderForm → List ℕ
    → Result (Token × List ℕ) DataFault
element_token_by true s top full t f rest = sequence_token full t rest (inside s f.vr)
element_token_by false s top full t f rest = value_token (is_long_key top t f.len) t f.len rest

-- the token of an element whose tag is known, from its form or the fault of its form
abbrev pub element_token_with : Syntax → Bool → Bool → Tag
    → Result (HeaderForm × List ℕ) DataFault
    → Result (Token × List ℕ) DataFault
element_token_with s top full t (Err fault) = Err fault
element_token_with s top full t (Ok p) =
    element_token_by (p.0.len == undefined) s top full t p.0 p.1

-- the header of an element, behind its tag
abbrev pub element_token : Syntax → Bool → Bool → Tag → List ℕ → Result (Token × List ℕ) DataFault
element_token s top full t rest =
    if t.group == item_group
    then Err BadLength
    else element_token_with s top full t (form_of s rest)

-- the token of an end of an item or a sequence, whatever its length field says
abbrev pub end_token : Token → Option (ℕ × List ℕ) → Result (Token × List ℕ) DataFault
end_token token None = Err Truncated
end_token token (Some p) = Ok (token, p.1)

-- the token of an item: one of undefined length opens, another is passed over by its length (PS3.5
-- 7.5)
abbrev pub open_item_token : Option (ℕ × List ℕ) → Result (Token × List ℕ) DataFault
open_item_token None = Err Truncated
open_item_token (Some p) = if p.0 == undefined then Ok (Item, p.1) else Ok (PlainItem p.0, p.1)

-- an item or the end of the sequence, behind its tag
abbrev pub item_token : Tag → Tag → List ℕ → Result (Token × List ℕ) DataFault
item_token sequence t rest =
    if has_tag item_group 0xE000 t
    then open_item_token (long_of rest)
    else
    (if has_tag item_group 0xE0DD t
    then end_token (SequenceEnd sequence) (long_of rest)
    else Err BadLength)

-- 32 sequences are open, so no further one may be
abbrev pub is_full : List OpenSequence → Bool
is_full fs = open_sequences fs == 32

-- the token by its tag and by what is open: elements at the top and in an item, items in a sequence
abbrev pub token_with : Syntax → List OpenSequence → Option (Tag × List ℕ)
    → Result (Token × List ℕ) DataFault
token_with s fs None = Err Truncated
token_with s [] (Some p) = element_token s true (is_full []) p.0 p.1
token_with s (InItem within ∷ fs) (Some p) =
    if has_tag item_group 0xE00D p.0
    then end_token ItemEnd (long_of p.1)
    else element_token within false (is_full (InItem within ∷ fs)) p.0 p.1
token_with s (InSequence t within ∷ fs) (Some p) = item_token t p.0 p.1

-- the header or end that comes next, and the text behind it
abbrev pub token_of : Syntax → List OpenSequence → List ℕ → Result (Token × List ℕ) DataFault
token_of s fs text = token_with s fs (tag_of text)

-- what is open once the innermost has ended
abbrev pub without_first : List OpenSequence → List OpenSequence
without_first [] = []
without_first (f ∷ fs) = fs

-- what is open behind a token that came where these were open
abbrev pub open_behind : Syntax → Token → List OpenSequence → List OpenSequence
open_behind s (Value t len) fs = fs
open_behind s (Sequence t within) fs = InSequence t within ∷ fs
open_behind s (PlainItem len) fs = fs
open_behind s Item fs = InItem (in_force s fs) ∷ fs
open_behind s ItemEnd fs = without_first fs
open_behind s (SequenceEnd t) fs = without_first fs

-- items stand in sequences, sequences in items or at the top, and at most 32 sequences are open
abbrev pub is_nested : List OpenSequence → Bool
is_nested [] = true
is_nested (InSequence t within ∷ []) = true
is_nested (InSequence t within ∷ InSequence u v ∷ fs) = false
is_nested (InSequence t within ∷ InItem v ∷ fs) =
    nat_lt (open_sequences fs) 32 && is_nested (InItem v ∷ fs)
is_nested (InItem within ∷ []) = false
is_nested (InItem within ∷ InItem v ∷ fs) = false
is_nested (InItem within ∷ InSequence t v ∷ fs) = is_nested (InSequence t v ∷ fs)
