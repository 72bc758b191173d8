-- Data elements (PS3.5 sections 6.2, 7.1 and 7.5). Each number has its least significant byte
-- first.
use Rattle.std.specs.Prelude.{◌≡◌, ◌≢◌, ℕ, zero, suc, ◌<◌, ◌^◌, Bool, true, false, List, [], ◌∷◌}
use Rattle.std.specs.Prelude.{◌++◌, length, ◌==◌, ◌&&◌, nat_le, if◌then◌else◌, Option, Some, None}
use Rattle.std.specs.Prelude.{◌⊎◌}
use Rattle.std.specs.Int.{w16, w32, to_le_bytes}
use Rattle.std.specs.List.{list_any}
use Rattle.dr_base.specs.Runs.{Run}
use Rattle.dr_base.specs.declared.syntax.Syntax.{Syntax}
use Rattle.dr_base.specs.declared.syntax.Syntax.TheVariants.{Implicit, Explicit}
use Rattle.dr_dataset.specs.declared.header.Tag.{Tag}
use Rattle.dr_dataset.specs.declared.header.Vr.{Vr}
use Rattle.dr_dataset.specs.declared.header.HeaderForm.{HeaderForm}

-- the undefined length, FFFFFFFFH, of what ends by a mark (PS3.5 7.1.1, 7.5)
abbrev pub undefined : ℕ
undefined = 4294967295

-- a tag as it is written: group and element number of two bytes each (PS3.5 7.1)
abbrev pub tag_text : Tag → List ℕ
tag_text t = to_le_bytes w16 t.group ++ to_le_bytes w16 t.element

-- the text begins with the tag, and then the rest follows
abbrev pub StartsTag : List ℕ → Tag → List ℕ → Type 0
StartsTag text t rest = (t.group < 2 ^ 16) × (t.element < 2 ^ 16) × (text ≡ tag_text t ++ rest)

-- items and ends have tags of this group
abbrev pub item_group : ℕ
item_group = 0xFFFE

-- the byte is a capital letter, A to Z
abbrev pub is_capital : ℕ → Bool
is_capital c = nat_le 65 c && nat_le c 90

-- AE AS AT CS DA DS DT FD FL IS LO LT PN SH SL SS ST TM UI UL US have a length of two bytes
abbrev pub short_letters : List (ℕ × ℕ)
short_letters =
    (65, 69) ∷ (65, 83) ∷ (65, 84) ∷ (67, 83) ∷ (68, 65) ∷ (68, 83) ∷ (68, 84) ∷ (70, 68) ∷ (70, 76)
    ∷ (73, 83) ∷ (76, 79) ∷ (76, 84) ∷ (80, 78) ∷ (83, 72) ∷ (83, 76) ∷ (83, 83) ∷ (83, 84)
    ∷ (84, 77) ∷ (85, 73) ∷ (85, 76) ∷ (85, 83) ∷ []

-- in the explicit syntax the length of this value representation has two bytes (PS3.5 7.1.2)
abbrev pub is_short : Vr → Bool
is_short v = list_any (λ (p : ℕ × ℕ). (p.0 == v.first) && (p.1 == v.second)) short_letters

-- What stands behind an element's tag (PS3.5 7.1.2, 7.1.3). Implicit: a length of four bytes.
-- Explicit: two capital letters, and then a length of two bytes, or two reserved bytes and a length
-- of four.
abbrev pub StartsForm : Syntax → List ℕ → HeaderForm → List ℕ → Type 0
StartsForm Implicit text f rest =
    (f.vr ≡ None) × (f.len < 2 ^ 32) × (text ≡ to_le_bytes w32 f.len ++ rest)
StartsForm Explicit text f rest =
    (v : Vr) × (f.vr ≡ Some v)
    × (is_capital v.first && is_capital v.second ≡ true)
    × (((is_short v ≡ true) × (f.len < 2 ^ 16)
    × (text ≡ v.first ∷ v.second ∷ (to_le_bytes w16 f.len ++ rest)))
    ⊎ ((r s : ℕ) × (is_short v ≡ false) × (f.len < 2 ^ 32)
    × (text ≡ v.first ∷ v.second ∷ r ∷ s ∷ (to_le_bytes w32 f.len ++ rest))))

-- the header of an element: a tag, which isn't of the group of items, and its form
abbrev pub StartsHeader : Syntax → List ℕ → Tag → HeaderForm → List ℕ → Type 0
StartsHeader s text t f rest =
    (behind : List ℕ) × StartsTag text t behind × (t.group ≢ item_group)
    × StartsForm s behind f rest

-- an item or an end: a tag of that group and a length, the same in both syntaxes
abbrev pub StartsMark : ℕ → List ℕ → ℕ → List ℕ → Type 0
StartsMark element text len rest =
    (behind : List ℕ)
    × StartsTag text (record { group = item_group; element = element }) behind
    × (len < 2 ^ 32)
    × (behind ≡ to_le_bytes w32 len ++ rest)

-- the syntax inside an element of undefined length, if it is a sequence: SQ its own, UN the
-- implicit one (PS3.5 6.2.2)
abbrev pub inside : Syntax → Option Vr → Option Syntax
inside Implicit v = Some Implicit
inside Explicit None = None
inside Explicit (Some v) =
    if (v.first == 83) && (v.second == 81)
    then Some Explicit
    else (if (v.first == 85) && (v.second == 78) then Some Implicit else None)

-- an element: its tag, and its value where its length is defined
pub record Element : Type 0 where
  pub tag : Tag
  pub value : Option (List ℕ)

-- an element of defined length, which is not looked into
abbrev pub StartsPlain : Syntax → List ℕ → Element → List ℕ → Type 0
StartsPlain s text e rest =
    (t : Tag) × (f : HeaderForm) × (value : List ℕ)
    × StartsHeader s text t f (value ++ rest)
    × (f.len ≢ undefined) × (length value ≡ f.len)
    × (e ≡ record { tag = t; value = Some value })

-- the header of a sequence of undefined length, with its tag and the syntax inside it
abbrev pub OpensSequence : Syntax → List ℕ → Tag → Syntax → List ℕ → Type 0
OpensSequence s text t within rest =
    (f : HeaderForm)
    × StartsHeader s text t f rest
    × (f.len ≡ undefined)
    × (inside s f.vr ≡ Some within)

-- an item of defined length, which is not looked into
abbrev pub StartsPlainItem : List ℕ → List ℕ → Type 0
StartsPlainItem text rest =
    (value : List ℕ)
    × (length value ≢ undefined)
    × StartsMark 0xE000 text (length value) (value ++ rest)

-- the header of an item of undefined length
abbrev pub OpensItem : List ℕ → List ℕ → Type 0
OpensItem text rest = StartsMark 0xE000 text undefined rest

-- the text begins with an item delimitation, (FFFE,E00D), of whatever length, and then the rest
-- follows (PS3.5 7.5)
abbrev pub EndsItem : List ℕ → List ℕ → Type 0
EndsItem text rest = (len : ℕ) × StartsMark 0xE00D text len rest

-- the text begins with a sequence delimitation, (FFFE,E0DD), of whatever length, and then the rest
-- follows (PS3.5 7.5)
abbrev pub EndsSequence : List ℕ → List ℕ → Type 0
EndsSequence text rest = (len : ℕ) × StartsMark 0xE0DD text len rest

-- an item, of defined length or with these elements in it
abbrev pub StartsItem : (List ℕ → Element → List ℕ → Type 0)
    → List ℕ → List Element → List ℕ → Type 0
StartsItem Starts text es rest =
    (StartsPlainItem text rest × (es ≡ []))
    ⊎ ((first close : List ℕ) × OpensItem text first
    × Run Starts es first close
    × EndsItem close rest)

-- an element with sequences of undefined length nested in it at most `levels` deep
abbrev pub StartsElement : ℕ → Syntax → List ℕ → Element → List ℕ → Type 0
StartsElement zero s text e rest = StartsPlain s text e rest
StartsElement (suc levels) s text e rest =
    StartsPlain s text e rest
    ⊎ ((t : Tag) × (within : Syntax)
    × (items : List (List Element))
    × (first close : List ℕ)
    × OpensSequence s text t within first
    × Run (StartsItem (StartsElement levels within)) items first close
    × EndsSequence close rest
    × (e ≡ record { tag = t; value = None }))
