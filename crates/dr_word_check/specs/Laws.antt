-- What the two commands say of each other.
use Rattle.std.specs.Prelude.{◌≡◌, ◌≢◌, ◌⊎◌, Ok}
use Rattle.dr_base.specs.Texts.{Text}
use Rattle.dr_plan_model.specs.Networks.{Network}
use Rattle.dr_plan.specs.Reading.{Reads}
use Rattle.dr_certify.specs.Certified.{IsCertifiedCore as IsCertifiedFirst}
use Rattle.dr_run_open.specs.declared.answer.PlanAnswer.{PlanAnswer}
use Rattle.dr_run_open.specs.declared.answer.PlanAnswer.TheVariants.{Sound, Memory as NoMemory}
use Rattle.dr_word_check.specs.Answers.{IsAnswerTo, IsCertifiedText, IsRefuted}
use Rattle.dr_word_check.specs.Verdicts.{IsVerdictOn}
use Rattle.dr_word_check.specs.declared.verify.Verification.{Verification}
use Rattle.dr_word_check.specs.declared.verify.Verification.TheVariants.{Yes, Memory}

-- to what `check` prints for a sound plan, `verify` answers yes, want of memory aside
abbrev pub WhatCheckPrintsIsVerified : Type 0
WhatCheckPrintsIsVerified =
    (text output : Text) → IsCertifiedText text output → (plan : Network) → Reads text (Ok plan)
    → (verdict : Verification)
    → IsVerdictOn plan output verdict
    → (verdict ≡ Yes) ⊎ (verdict ≡ Memory)

-- a text that has a certificate is answered by one, want of memory aside
abbrev pub CertifiedTextsAreSound : Type 0
CertifiedTextsAreSound =
    (text output : Text) → IsCertifiedText text output → (answer : PlanAnswer)
    → IsAnswerTo text answer
    → answer ≢ NoMemory
    → (printed : Text) × (answer ≡ Sound printed)

-- of all faults of a text's plan, one is told
abbrev pub OneFaultIsTold : Type 0
OneFaultIsTold =
    (text : Text) (one other : Text) → IsRefuted text one → IsRefuted text other → one ≡ other

-- texts for which the same is printed have the same certificate
abbrev pub OneCertificateIsPrinted : Type 0
OneCertificateIsPrinted =
    (a b output : Text) (one : IsCertifiedText a output) (other : IsCertifiedText b output)
    → one.has.certificate ≡ other.has.certificate

-- what the program of the first certificate prints for a text is its certificate
abbrev pub FirstCertificatesAreIts : Type 0
FirstCertificatesAreIts =
    (text output : Text) → IsCertifiedFirst text output → IsCertifiedText text output
