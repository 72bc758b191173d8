-- A worked example, in bytes: a C-STORE-RQ whose data set comes in two fragments.
use Rattle.std.specs.Prelude.{List, [], ◌∷◌, codes, Some, None, true}
use Rattle.dr_pdu.specs.declared.pdu.Pdv.{Pdv}
use Rattle.dr_dimse.specs.declared.command.Command.TheVariants.{StoreRsp, Other}
use Rattle.dr_dimse.specs.declared.message.Body.TheVariants.{Whole, TooLarge}
use Rattle.dr_dimse.specs.declared.message.Message.{Message}
use Rattle.dr_base.specs.Standard.{image}
use Rattle.dr_dimse.specs.Vectors.{store_request, moved_text}
use Rattle.dr_dataset.specs.declared.values.Attributes.{Attributes}
use Rattle.dr_dataset.specs.Worked.{modality_text}

-- the command, and the data set cut behind the tag of its one element, the modality in the implicit
-- syntax
abbrev pub store_values : List Pdv
store_values = record { id = 1; header = 3; fragment = moved_text (9 ∷ 0 ∷ []) }
    ∷ record { id = 1; header = 0; fragment = 0x08 ∷ 0x00 ∷ 0x60 ∷ 0x00 ∷ [] }
    ∷ record { id = 1; header = 2; fragment = 0x02 ∷ 0x00 ∷ 0x00 ∷ 0x00 ∷ 0x4D ∷ 0x52 ∷ [] }
    ∷ []

-- the message that they are
abbrev pub stored : Message
stored = record { id = 1; command = store_request; body = Some (Whole modality_text) }

-- the same data set behind a C-STORE-RSP, which has none by the standard
abbrev pub answered : Message
answered = record {
  id = 1;
  command = StoreRsp 7 0 image (codes "1.2.3") true;
  body = Some (Whole modality_text);
}

-- the same behind a C-FIND-RQ, whose identifier is a data set (PS3.7 9.3.2.1)
abbrev pub asked : Message
asked =
    record { id = 1; command = Other 0x0020 (Some 7) None true; body = Some (Whole modality_text) }

-- a data set of more than 67,108,864 bytes
abbrev pub stored_large : Message
stored_large = record { id = 1; command = store_request; body = Some TooLarge }

-- `MR` as the modality, and nothing else
abbrev pub modality_alone : Attributes
modality_alone = record { class = []; instance = []; modality = codes "MR"; station = [] }
