-- Elements of the top level, as a scan finds them.
use Rattle.std.specs.Prelude.{◌≡◌, ℕ, List, [], ◌∷◌, Option, Some, None, unwrap_or}
use Rattle.std.specs.Borrow.{Bor}
use Rattle.std.specs.Option.{option_copied}
use Rattle.dr_base.specs.declared.syntax.Syntax.{Syntax}
use Rattle.dr_dataset.specs.declared.fault.DataFault.{DataFault}
use Rattle.dr_dataset.specs.declared.header.Tag.{Tag}
use Rattle.dr_dataset.specs.declared.frame.OpenSequence.{OpenSequence}
use Rattle.dr_dataset.specs.declared.whole.Whole.{Whole}
use Rattle.dr_dataset.specs.declared.found.ElementsFound.{ElementsFound}
use Rattle.dr_dataset.specs.declared.values.Attributes.{Attributes}
use Rattle.dr_dataset.specs.Elements.{Element}
use Rattle.dr_base.specs.Padding.{trimmed}
use Rattle.dr_dataset.specs.DataSet.{first_value, Opens, ShowsFault}

-- an element, as the one element of the top level that it is where nothing is open behind it, and
-- none else
abbrev pub whole : List OpenSequence → Tag → Option (List ℕ) → List Element
whole [] t value = record { tag = t; value = value } ∷ []
whole (f ∷ fs) t value = []

-- the element of the top level that a token ended, where one did
abbrev pub elements_of : Option Whole → List Element
elements_of None = []
elements_of (Some w) = record { tag = w.tag; value = option_copied w.value } ∷ []

-- a scan has found the first bytes of each of the four tags in these elements
abbrev pub AreFound : ElementsFound → List Element → Type 0
AreFound f es =
    (option_copied f.class ≡ first_value 0x0008 0x0016 es)
    × (option_copied f.instance ≡ first_value 0x0008 0x0018 es)
    × (option_copied f.modality ≡ first_value 0x0008 0x0060 es)
    × (option_copied f.station ≡ first_value 0x0008 0x1010 es)

-- the text of a value that was found, without padding (PS3.5 6.2), empty where there is none
abbrev pub text_of : Option (Bor (List ℕ)) → List ℕ
text_of value = trimmed (unwrap_or (option_copied value) [])

-- the attributes are the four values that were found, trimmed
abbrev pub AreValues : ElementsFound → Attributes → Type 0
AreValues f a =
    (a.class ≡ text_of f.class)
    × (a.instance ≡ text_of f.instance)
    × (a.modality ≡ text_of f.modality)
    × (a.station ≡ text_of f.station)

-- a fault shows before one element of the top level is whole
abbrev pub FailsAtOnce : Syntax → List ℕ → DataFault → Type 0
FailsAtOnce s text fault =
    (fs : List OpenSequence) × (rest : List ℕ) × Opens s fs text [] rest
    × ShowsFault s fs rest fault

-- an element that was found whole, as the grammar sees it
abbrev pub element_of : Whole → Element
element_of w = record { tag = w.tag; value = option_copied w.value }
