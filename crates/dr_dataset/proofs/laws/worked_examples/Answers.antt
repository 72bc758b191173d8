use Rattle.std.proofs.Common.{ℕ, List, [], ◌∷◌, refl, inl, Some, None, arith}
use Rattle.dr_dataset.specs.declared.header.Tag.{Tag}
use Rattle.dr_dataset.specs.declared.header.HeaderForm.{HeaderForm}
use Rattle.dr_dataset.specs.Elements.{Element}
use Rattle.dr_dataset.proofs.laws.worked_examples.Goals as goal

pub returns-clause-modality : goal.returns-clause-modality
returns-clause-modality c =
    let t : Tag = record { group = 8; element = 0x60 } in
    let f : HeaderForm = record { vr = None; len = 2 } in
    let value : List ℕ = 0x4D ∷ 0x52 ∷ [] in
    let e : Element = record { tag = t; value = Some value } in
    (e ∷ [], ([], (inl (t, f, value, (0x02 ∷ 0x00 ∷ 0x00 ∷ 0x00 ∷ value, (omega arith, omega arith, refl), λ h. omega (arith, h), (refl, omega arith, refl)), λ h. omega (arith, h), refl, refl), λ key. omega arith), refl), refl, refl)

pub returns-clause-nothing : goal.returns-clause-nothing
returns-clause-nothing c = λ s. refl

pub returns-clause-item : goal.returns-clause-item
returns-clause-item c = ([], [], 0xFE ∷ 0xFF ∷ 0x00 ∷ 0xE0 ∷ [], refl, inl (record { group = 0xFFFE; element = 0xE000 }, [], (omega arith, omega arith, refl), refl))

pub returns-clause-letters : goal.returns-clause-letters
returns-clause-letters c =
    ([], [], 0x08 ∷ 0x00 ∷ 0x60 ∷ 0x00 ∷ 0x63 ∷ 0x73 ∷ [], refl, (record { group = 8; element = 0x60 }, 0x63, 0x73, [], refl, refl, (omega arith, omega arith, refl), (λ h. omega (arith, h)), refl))
