-- Headers and tokens as they are taken off a text: the grammar's relations as functions.
use Rattle.std.specs.Prelude.{◌≡◌, ℕ, Bool, true, false, List, [], ◌∷◌, ◌&&◌, nat_lt, if◌then◌else◌}
use Rattle.std.specs.Prelude.{Option, Some, None, Result, Ok, Err}
use Rattle.std.specs.Borrow.{Bor}
use Rattle.std.specs.Int.{w16, w32, from_le_bytes}
use Rattle.dr_base.specs.declared.syntax.Syntax.{Syntax}
use Rattle.dr_base.specs.declared.syntax.Syntax.TheVariants.{Implicit, Explicit}
use Rattle.dr_dataset.specs.declared.fault.DataFault.{DataFault}
use Rattle.dr_dataset.specs.declared.fault.DataFault.TheVariants.{Truncated, BadVr}
use Rattle.dr_dataset.specs.declared.header.Tag.{Tag}
use Rattle.dr_dataset.specs.declared.header.Vr.{Vr}
use Rattle.dr_dataset.specs.declared.header.HeaderForm.{HeaderForm}
use Rattle.dr_dataset.specs.Elements.{is_capital, is_short}

-- what a function takes off the front of a text, with the borrowed rest behind it, is what is
-- wanted
abbrev pub GivesSome : {X : Type 0} → Option (X × Bor (List ℕ)) → Option (X × List ℕ) → Type 0
GivesSome None wanted = wanted ≡ None
GivesSome (Some taken) wanted = wanted ≡ Some (taken.0, taken.1.now)

-- what a function takes off the front of a text, with the borrowed rest behind it, is what is
-- wanted, or so is its fault
abbrev pub Gives : {X : Type 0}
    → Result (X × Bor (List ℕ)) DataFault
    → Result (X × List ℕ) DataFault
    → Type 0
Gives (Ok taken) wanted = wanted ≡ Ok (taken.0, taken.1.now)
Gives (Err fault) wanted = wanted ≡ Err fault

-- the number is a byte, below 256
abbrev pub is_byte : ℕ → Bool
is_byte b = nat_lt b 256

-- a number of two bytes, the least significant first, and what follows
abbrev pub short_of : List ℕ → Option (ℕ × List ℕ)
short_of (a ∷ b ∷ rest) =
    if is_byte a && is_byte b then Some (from_le_bytes w16 (a ∷ b ∷ []), rest) else None
short_of text = None

-- a number of four bytes, the least significant first, and what follows
abbrev pub long_of : List ℕ → Option (ℕ × List ℕ)
long_of (a ∷ b ∷ c ∷ d ∷ rest) =
    if (is_byte a && is_byte b) && (is_byte c && is_byte d)
    then Some (from_le_bytes w32 (a ∷ b ∷ c ∷ d ∷ []), rest)
    else None
long_of text = None

-- a tag (PS3.5 7.1), and what follows; none where less than four bytes are there
abbrev pub tag_of : List ℕ → Option (Tag × List ℕ)
tag_of (a ∷ b ∷ c ∷ d ∷ rest) =
    if (is_byte a && is_byte b) && (is_byte c && is_byte d)
    then Some (
      record { group = from_le_bytes w16 (a ∷ b ∷ []); element = from_le_bytes w16 (c ∷ d ∷ []) },
      rest,
    )
    else None
tag_of text = None

-- the form of an element from its value representation and the length that was read, if there was
-- one
abbrev pub form_with : Option Vr → Option (ℕ × List ℕ) → Result (HeaderForm × List ℕ) DataFault
form_with v None = Err Truncated
form_with v (Some p) = Ok (record { vr = v; len = p.0 }, p.1)

-- behind the letters of a value representation, two reserved bytes and a length of four (PS3.5
-- 7.1.2)
abbrev pub long_form_of : Vr → List ℕ → Result (HeaderForm × List ℕ) DataFault
long_form_of v (r ∷ s ∷ rest) = form_with (Some v) (long_of rest)
long_form_of v text = Err Truncated

-- the form behind two letters, by whether they are capitals and whether their length has two bytes
abbrev pub lettered_form_of : Bool → Bool → Vr → List ℕ → Result (HeaderForm × List ℕ) DataFault
lettered_form_of false short v text = Err BadVr
lettered_form_of true true v text = form_with (Some v) (short_of text)
lettered_form_of true false v text = long_form_of v text

-- the two letters of a value representation are capitals (PS3.5 6.2)
abbrev pub are_capitals : Vr → Bool
are_capitals v = is_capital v.first && is_capital v.second

-- what stands behind a tag in the explicit syntax: letters and a length (PS3.5 7.1.2), and what
-- follows
abbrev pub explicit_form_of : List ℕ → Result (HeaderForm × List ℕ) DataFault
explicit_form_of (a ∷ b ∷ rest) =
    let v : Vr = record { first = a; second = b } in
    lettered_form_of (are_capitals v) (is_short v) v rest
explicit_form_of text = Err Truncated

-- what stands behind a tag in either syntax, and what follows: a length, with or without letters
-- before it
abbrev pub form_of : Syntax → List ℕ → Result (HeaderForm × List ℕ) DataFault
form_of Implicit text = form_with None (long_of text)
form_of Explicit text = explicit_form_of text
