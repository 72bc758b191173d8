-- Data sets (PS3.5 section 7), four of their values, and their first fault.
use Rattle.std.specs.Prelude.{◌≡◌, ◌≢◌, ℕ, suc, ◌-◌, ◌<◌, ◌≤◌, Bool, true, false, List, [], ◌∷◌}
use Rattle.std.specs.Prelude.{length, ◌==◌, ◌&&◌, ◌||◌, Option, None, option_map, unwrap_or, ◌⊎◌}
use Rattle.std.specs.Prelude.{find, IfSome, Result, Ok, Err}
use Rattle.dr_base.specs.Runs.{Run}
use Rattle.dr_base.specs.Padding.{trimmed}
use Rattle.dr_base.specs.declared.syntax.Syntax.{Syntax}
use Rattle.dr_base.specs.declared.syntax.Syntax.TheVariants.{Explicit}
use Rattle.dr_dataset.specs.declared.fault.DataFault.{DataFault}
use Rattle.dr_dataset.specs.declared.fault.DataFault.TheVariants.{Truncated, BadVr, BadLength}
use Rattle.dr_dataset.specs.declared.fault.DataFault.TheVariants.{TooDeep, Memory}
use Rattle.dr_dataset.specs.declared.header.Tag.{Tag}
use Rattle.dr_dataset.specs.declared.header.HeaderForm.{HeaderForm}
use Rattle.dr_dataset.specs.declared.frame.OpenSequence.{OpenSequence}
use Rattle.dr_dataset.specs.declared.frame.OpenSequence.TheVariants.{InSequence, InItem}
use Rattle.dr_dataset.specs.declared.values.Attributes.{Attributes}
use Rattle.dr_dataset.specs.Elements.{Element, undefined, item_group, is_capital, inside, StartsTag}
use Rattle.dr_dataset.specs.Elements.{StartsHeader, StartsPlain, OpensSequence, StartsPlainItem}
use Rattle.dr_dataset.specs.Elements.{OpensItem, StartsItem, EndsItem, EndsSequence, StartsElement}

-- the tag has this group and this element number (PS3.5 7.1)
abbrev pub has_tag : ℕ → ℕ → Tag → Bool
has_tag group element t = (t.group == group) && (t.element == element)

-- one of the four whose values are read: SOP class UID (0008,0016), SOP instance UID (0008,0018),
-- modality (0008,0060) and station name (0008,1010)
abbrev pub is_key : Tag → Bool
is_key t =
    has_tag 0x0008 0x0016 t || has_tag 0x0008 0x0018 t || has_tag 0x0008 0x0060 t
    || has_tag 0x0008 0x1010 t

-- a top-level element: sequences at most 32 deep, and one of the four of defined length within 1024
-- bytes
abbrev pub StartsTop : Syntax → List ℕ → Element → List ℕ → Type 0
StartsTop s text e rest =
    StartsElement 32 s text e rest × (is_key e.tag ≡ true → IfSome e.value (λ v. length v ≤ 1024))

-- the text, all of it, is a data set in that syntax, with these elements at its top level (PS3.5 7)
abbrev pub IsDataSet : Syntax → List ℕ → List Element → Type 0
IsDataSet s text es = Run (StartsTop s) es text []

-- ---- values

-- the bytes of the first element with the tag, none where its length is undefined
abbrev pub first_value : ℕ → ℕ → List Element → Option (List ℕ)
first_value group element es = option_map
    (λ (e : Element). unwrap_or e.value []) (find (λ (e : Element). has_tag group element e.tag) es)

-- the text of the first element with the tag, empty where there is none
abbrev pub value_at : ℕ → ℕ → List Element → List ℕ
value_at group element es = trimmed (unwrap_or (first_value group element es) [])

-- ---- the first fault: behind a front that is in order, something is not

-- the syntax in force under what is open, the innermost first
abbrev pub in_force : Syntax → List OpenSequence → Syntax
in_force s [] = s
in_force s (InSequence t within ∷ fs) = within
in_force s (InItem within ∷ fs) = within

-- how many sequences are open
abbrev pub open_sequences : List OpenSequence → ℕ
open_sequences [] = 0
open_sequences (InSequence t within ∷ fs) = suc (open_sequences fs)
open_sequences (InItem within ∷ fs) = open_sequences fs

-- how many sequences may still be opened
abbrev pub levels_left : List OpenSequence → ℕ
levels_left fs = 32 - open_sequences fs

-- whether elements are expected under what is open; else items are
abbrev pub wants_elements : List OpenSequence → Bool
wants_elements [] = true
wants_elements (InSequence t within ∷ fs) = false
wants_elements (InItem within ∷ fs) = true

-- the header of a sequence, where one may be opened
abbrev pub MayOpen : Syntax → List OpenSequence → List ℕ → Tag → Syntax → List ℕ → Type 0
MayOpen s fs text t within rest =
    (wants_elements fs ≡ true)
    × (open_sequences fs < 32)
    × OpensSequence (in_force s fs) text t within rest

-- the header of an item of undefined length, in a sequence, whose syntax it has
abbrev pub MayOpenItem : List OpenSequence → List ℕ → Syntax → List ℕ → Type 0
MayOpenItem (InSequence t u ∷ fs) text within rest = (within ≡ u) × OpensItem text rest
MayOpenItem fs text within rest = ⊥

-- The text begins with whole top-level elements, then, for each frame, an opening and whole parts;
-- then the rest follows.
abbrev pub Opens : Syntax → List OpenSequence → List ℕ → List Element → List ℕ → Type 0
Opens s [] text es rest = Run (StartsTop s) es text rest
Opens s (InSequence t within ∷ fs) text es rest =
    (items : List (List Element))
    × (mid first : List ℕ) × Opens s fs text es mid
    × MayOpen s fs mid t within first
    × Run (StartsItem (StartsElement (levels_left (InSequence t within ∷ fs)) within)) items first
    rest
Opens s (InItem within ∷ fs) text es rest =
    (xs : List Element) × (mid first : List ℕ) × Opens s fs text es mid
    × MayOpenItem fs mid within first
    × Run (StartsElement (levels_left fs) within) xs first rest

-- what may stand next under what is open, and then the rest follows: one value, opening or end
abbrev pub StartsToken : Syntax → List OpenSequence → List ℕ → List ℕ → Type 0
StartsToken s [] text rest =
    ((e : Element)
    × StartsPlain s text e rest
    × (is_key e.tag ≡ true → IfSome e.value (λ v. length v ≤ 1024)))
    ⊎ ((t : Tag) × (within : Syntax) × MayOpen s [] text t within rest)
StartsToken s (InItem u ∷ fs) text rest =
    ((e : Element) × StartsPlain u text e rest)
    ⊎ (((t : Tag) × (within : Syntax) × MayOpen s (InItem u ∷ fs) text t within rest)
    ⊎ EndsItem text rest)
StartsToken s (InSequence t u ∷ fs) text rest =
    StartsPlainItem text rest ⊎ (OpensItem text rest ⊎ EndsSequence text rest)

-- a tag that can't stand there: a sequence has items and its end, an item elements and its end, the
-- top elements
abbrev pub IsBadTag : List OpenSequence → Tag → Type 0
IsBadTag (InSequence u within ∷ fs) t =
    t.group ≡ item_group → (t.element ≢ 0xE000) × (t.element ≢ 0xE0DD)
IsBadTag (InItem within ∷ fs) t = (t.group ≡ item_group) × (t.element ≢ 0xE00D)
IsBadTag [] t = t.group ≡ item_group

-- an element in the explicit syntax whose value representation isn't two capital letters (PS3.5
-- 6.2, 7.1.2)
abbrev pub ShowsVr : Syntax → List OpenSequence → List ℕ → Type 0
ShowsVr s fs text =
    (t : Tag) × (a b : ℕ) × (rest : List ℕ)
    × (wants_elements fs ≡ true)
    × (in_force s fs ≡ Explicit)
    × StartsTag text t (a ∷ b ∷ rest)
    × (t.group ≢ item_group)
    × (is_capital a && is_capital b ≡ false)

-- a tag or a length that can't stand under what is open
abbrev pub ShowsLength : Syntax → List OpenSequence → List ℕ → Type 0
ShowsLength s fs text =
    ((t : Tag) × (rest : List ℕ) × StartsTag text t rest × IsBadTag fs t)
    ⊎ ((t : Tag) × (f : HeaderForm) × (rest : List ℕ)
    × (wants_elements fs ≡ true)
    × StartsHeader (in_force s fs) text t f rest
    × (((f.len ≡ undefined) × (inside (in_force s fs) f.vr ≡ None))
    ⊎ ((fs ≡ []) × (is_key t ≡ true) × (f.len ≢ undefined) × (1024 < f.len))))

-- a sequence opens where 32 are open, which is the most
abbrev pub ShowsDepth : Syntax → List OpenSequence → List ℕ → Type 0
ShowsDepth s fs text =
    (t : Tag) × (within : Syntax) × (rest : List ℕ)
    × (wants_elements fs ≡ true)
    × OpensSequence (in_force s fs) text t within rest
    × (open_sequences fs ≡ 32)

-- the text shows this fault, where these sequences and items are open
abbrev pub ShowsFault : Syntax → List OpenSequence → List ℕ → DataFault → Type 0
ShowsFault s fs text BadVr = ShowsVr s fs text
ShowsFault s fs text BadLength = ShowsLength s fs text
ShowsFault s fs text TooDeep = ShowsDepth s fs text
-- more should come: something is open or begun, no whole token stands there, and nothing else is
-- wrong
ShowsFault s fs text Truncated =
    (text ≡ [] → fs ≢ [])
    × ((rest : List ℕ) → StartsToken s fs text rest → ⊥)
    × (ShowsVr s fs text → ⊥)
    × (ShowsLength s fs text → ⊥)
    × (ShowsDepth s fs text → ⊥)
-- nothing is wrong: the text ends here, and there was no memory for its values
ShowsFault s fs text Memory = (fs ≡ []) × (text ≡ [])

-- Behind a front that is in order the fault shows, so it is the one at the least offset.
abbrev pub FirstFault : Syntax → List ℕ → DataFault → Type 0
FirstFault s text fault =
    (fs : List OpenSequence) × (es : List Element) × (rest : List ℕ) × Opens s fs text es rest
    × ShowsFault s fs rest fault

-- the four attributes, or the first fault
abbrev pub Scans : Syntax → List ℕ → Result Attributes DataFault → Type 0
Scans s text (Ok a) =
    (es : List Element) × IsDataSet s text es
    × (a.class ≡ value_at 0x0008 0x0016 es)
    × (a.instance ≡ value_at 0x0008 0x0018 es)
    × (a.modality ≡ value_at 0x0008 0x0060 es)
    × (a.station ≡ value_at 0x0008 0x1010 es)
Scans s text (Err fault) = FirstFault s text fault
