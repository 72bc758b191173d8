-- Worked examples of the definitions.
use Rattle.std.specs.Prelude.{◌≡◌, ℕ, List, [], ◌∷◌, codes}
use Rattle.dr_base.specs.declared.syntax.Syntax.{Syntax}
use Rattle.dr_base.specs.declared.syntax.Syntax.TheVariants.{Implicit, Explicit}
use Rattle.dr_dataset.specs.declared.fault.DataFault.TheVariants.{BadVr, BadLength}
use Rattle.dr_dataset.specs.Elements.{Element}
use Rattle.dr_dataset.specs.DataSet.{IsDataSet, FirstFault, value_at}

-- an element of a data set in the implicit syntax, (0008,0060), with the modality in it
abbrev pub modality_text : List ℕ
modality_text = 0x08 ∷ 0x00 ∷ 0x60 ∷ 0x00 ∷ 0x02 ∷ 0x00 ∷ 0x00 ∷ 0x00 ∷ 0x4D ∷ 0x52 ∷ []

-- a text of the modality alone is a data set, with `MR` as its modality and no class
abbrev pub ModalityIsRead : Type 0
ModalityIsRead =
    (es : List Element)
    × IsDataSet Implicit modality_text es
    × (value_at 0x0008 0x0060 es ≡ codes "MR")
    × (value_at 0x0008 0x0016 es ≡ [])

-- no bytes at all are a data set too, without elements
abbrev pub NothingIsRead : Type 0
NothingIsRead = (s : Syntax) → IsDataSet s [] []

-- an item where an element should stand is `BadLength`
abbrev pub ItemIsBad : Type 0
ItemIsBad = FirstFault Explicit (0xFE ∷ 0xFF ∷ 0x00 ∷ 0xE0 ∷ []) BadLength

-- small letters for a value representation are `BadVr`
abbrev pub SmallLettersAreBad : Type 0
SmallLettersAreBad = FirstFault Explicit (0x08 ∷ 0x00 ∷ 0x60 ∷ 0x00 ∷ 0x63 ∷ 0x73 ∷ []) BadVr
