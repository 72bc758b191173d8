-- The worked example, by computation.
use Rattle.std.proofs.Common.{ℕ, List, [], ◌∷◌, refl, arith, inl, inr, Some, None, Ok, Err}
use Rattle.dr_base.specs.declared.syntax.Syntax.TheVariants.{Implicit, Explicit}
use Rattle.dr_pdu.specs.declared.pdu.Pdv.{Pdv}
use Rattle.dr_dimse.specs.Messages.{IsMessage}
use Rattle.dr_dimse.specs.Vectors.{moved_text}
use Rattle.dr_dimse.proofs.FigureLemmas.{moved_read}
use Rattle.dr_dataset.specs.declared.fault.DataFault.TheVariants.{BadVr}
use Rattle.dr_dataset.specs.declared.header.Tag.{Tag}
use Rattle.dr_dataset.specs.declared.header.HeaderForm.{HeaderForm}
use Rattle.dr_dataset.specs.DataSet.{Scans}
use Rattle.dr_dataset.specs.Elements.{Element}
use Rattle.dr_dataset.specs.Worked.{modality_text}
use Rattle.dr_dimse_scan.specs.Worked.{store_values, stored, modality_alone}

pub store_is_message : IsMessage store_values stored
store_is_message =
    let command : Pdv = record { id = 1; header = 3; fragment = moved_text (9 ∷ 0 ∷ []) } in
    let first : Pdv = record { id = 1; header = 0; fragment = 0x08 ∷ 0x00 ∷ 0x60 ∷ 0x00 ∷ [] } in
    let last : Pdv = record { id = 1; header = 2; fragment = 0x02 ∷ 0x00 ∷ 0x00 ∷ 0x00 ∷ 0x4D ∷ 0x52 ∷ [] } in (
      command ∷ [],
      first ∷ last ∷ [],
      moved_text (9 ∷ 0 ∷ []),
      refl,
      ([], command, refl, tt, (refl, refl), refl, refl),
      omega arith,
      moved_read,
      inr (refl, (modality_text, (first ∷ [], last, refl, (((refl, refl), refl), tt), (refl, refl), refl, refl), refl)),
    )

pub modality_read : Scans Implicit modality_text (Ok modality_alone)
modality_read =
    let t : Tag = record { group = 8; element = 0x60 } in
    let f : HeaderForm = record { vr = None; len = 2 } in
    let value : List ℕ = 0x4D ∷ 0x52 ∷ [] in
    let e : Element = record { tag = t; value = Some value } in
    (e ∷ [], ([], (inl (t, f, value, (0x02 ∷ 0x00 ∷ 0x00 ∷ 0x00 ∷ value, (omega arith, omega arith, refl), λ h. omega (arith, h), (refl, omega arith, refl)), λ h. omega (arith, h), refl, refl), λ key. omega arith), refl), refl, refl, refl, refl)

pub modality_bad : Scans Explicit modality_text (Err BadVr)
modality_bad =
    ([], [], modality_text, refl, (record { group = 8; element = 0x60 }, 0x02, 0x00, 0x00 ∷ 0x00 ∷ 0x4D ∷ 0x52 ∷ [], refl, refl, (omega arith, omega arith, refl), (λ h. omega (arith, h)), refl))
