use Rattle.std.proofs.Common.{◌≢◌, ◌<◌, ◌≤◌, length, Err, refl, arith}
use Rattle.dr_base.specs.Texts.{Text}
use Rattle.dr_plan_model.specs.Networks.{Network}
use Rattle.dr_check.specs.Laws.{TooLargeHasManyLines}
use Rattle.dr_check.proofs.Unsound.{no_sound_plan}
use Rattle.dr_certify.specs.Certified.{HasCertificate, Certifies}
use Rattle.dr_certify.specs.declared.certificate.Refusal.{Refusal}
use Rattle.dr_certify.specs.declared.certificate.Refusal.TheVariants.{Unsound, TooLarge, Memory}
use Rattle.dr_certify.proofs.laws.no_plan_has_both.Goals as goal

refused : TooLargeHasManyLines → (plan : Network) (output : Text) → HasCertificate plan output → (refusal : Refusal) → refusal ≢ Memory → Certifies plan (Err refusal) → ⊥
refused many plan output it (Unsound fault) apart is = no_sound_plan plan fault is.0 it.sound
refused many plan output it TooLarge apart is =
    let over : 65536 < length it.certificate.lines = many plan is it.sound it.certificate it.own in
    let few : length it.certificate.lines ≤ 65536 = it.printable.few in
    omega (arith, over, few)
refused many plan output it Memory apart is = apart refl

pub returns : goal.returns
returns c = λ plan output it is. refused c.too_large_has_many_lines.ensures plan output it is.0 is.1 is.2
