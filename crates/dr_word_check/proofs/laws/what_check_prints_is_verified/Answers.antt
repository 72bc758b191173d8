use Rattle.std.proofs.Common.{◌≡◌, ◌⊎◌, inl, inr, refl, sym, ◌∙◌, subst, Ok}
use Rattle.dr_base.specs.Texts.{Text}
use Rattle.dr_plan_model.specs.Networks.{Network}
use Rattle.dr_plan.specs.Reading.{Reads}
use Rattle.dr_plan_sound.specs.declared.certificate.Certificate.{Certificate}
use Rattle.dr_plan_sound.specs.Soundness.{IsSound}
use Rattle.dr_plan_sound.specs.Certificates.{IsCertificateOf}
use Rattle.dr_cert_text.proofs.Whole.{same_certificate}
use Rattle.dr_cert.specs.Refusing.{IsRefused}
use Rattle.dr_cert.proofs.Faultless.{own_is_taken}
use Rattle.dr_word_check.specs.Answers.{IsCertifiedText}
use Rattle.dr_word_check.proofs.Read.{read_once}
use Rattle.dr_word_check.specs.Verdicts.{IsVerdictOn}
use Rattle.dr_word_check.specs.declared.verify.Verification.{Verification}
use Rattle.dr_word_check.specs.declared.verify.Verification.TheVariants.{Yes, No, Memory}
use Rattle.dr_word_check.proofs.laws.what_check_prints_is_verified.Goals as goal

verdicts : (text output : Text) → IsCertifiedText text output → (plan : Network) → Reads text (Ok plan) → (verdict : Verification) → IsVerdictOn plan output verdict →
    (verdict ≡ Yes) ⊎ (verdict ≡ Memory)
verdicts text output proved plan reads Yes right = inl refl
verdicts text output proved plan reads Memory right = inr refl
verdicts text output proved plan reads (No refused) right = absurd (elim right.1 [
  | inl none ↦ none.1 proved.has.certificate proved.has.printable (sym proved.has.printed)
  | inr some ↦
      let same : some.0 ≡ proved.has.certificate = same_certificate some.0 proved.has.certificate some.1.1 proved.has.printable (some.1.0 ∙ proved.has.printed) in
      let own : proved.plan ≡ plan = read_once text proved.plan plan proved.reads reads in
      let P : Certificate → Type 0 = λ c. IsRefused plan c refused in
      let Q : Network → Type 0 = λ n. IsSound n × IsCertificateOf n proved.has.certificate in
      let is = subst Q own (proved.has.sound, proved.has.own) in
      right.0 (own_is_taken plan proved.has.certificate is.0 is.1 refused (subst P same some.2))
])

pub returns : goal.returns
returns c = verdicts
