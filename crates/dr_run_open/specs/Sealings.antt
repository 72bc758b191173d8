-- What is read of the text of a plan, and of that of its certificate.
use Rattle.std.specs.Prelude.{◌≡◌, ◌≢◌, ◌⊎◌, Result, Ok, Err}
use Rattle.dr_base.specs.Texts.{Text}
use Rattle.dr_plan_model.specs.Networks.{Network}
use Rattle.dr_plan_sound.specs.declared.certificate.Certificate.{Certificate}
use Rattle.dr_plan_sound.specs.Soundness.{IsSound}
use Rattle.dr_plan_sound.specs.Certificates.{IsCertificateOf}
use Rattle.dr_cert_text.specs.CertificateText.{certificate_text}
use Rattle.dr_cert_text.specs.Printable.{IsPrintable}
use Rattle.dr_cert_text.specs.Reading.{IsReadBack, HasNone}
use Rattle.dr_plan.specs.Reading.{Reads}
use Rattle.dr_cert.specs.Refusing.{IsRefused}
use Rattle.dr_cert.specs.Sealing.{Certified}
use Rattle.dr_cert.specs.declared.fault.CertFault.{CertFault}
use Rattle.dr_cert.specs.declared.fault.CertFault.TheVariants as fault
use Rattle.dr_run_open.specs.Answers.{IsNoPlan}
use Rattle.dr_run_open.specs.declared.answer.PlanAnswer.{PlanAnswer}

-- what is read of a text: its plan, or the answer that it has none
abbrev pub ReadsPlan : Text → Result Network PlanAnswer → Type 0
ReadsPlan text (Ok plan) = Reads text (Ok plan)
ReadsPlan text (Err told) = IsNoPlan text told

-- the text is written for this certificate, which can be read back
abbrev pub IsTextOf : Text → Certificate → Type 0
IsTextOf text certificate = IsReadBack certificate_text IsPrintable text certificate

-- the text is written for no certificate
abbrev pub IsTextOfNone : Text → Type 0
IsTextOfNone text = HasNone certificate_text IsPrintable text

-- the text is written for no certificate, or the certificate that it is written for has this fault
abbrev pub IsFaultOf : Network → Text → CertFault → Type 0
IsFaultOf plan text refused =
    ((refused ≡ fault.Text) × IsTextOfNone text)
    ⊎ ((certificate : Certificate) × IsTextOf text certificate × IsRefused plan certificate refused)

-- what sealing a plan by a text answers: the plan with the certificate that the text is written
-- for, or a fault of the text
abbrev pub SealsText : Network → Text → Result Certified CertFault → Type 0
SealsText plan text (Ok sealed) =
    (sealed.plan ≡ plan)
    × IsTextOf text sealed.certificate
    × IsSound plan
    × IsCertificateOf plan sealed.certificate
SealsText plan text (Err refused) = (refused ≢ fault.Memory) → IsFaultOf plan text refused
