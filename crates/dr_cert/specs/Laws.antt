-- Laws of sealing.
use Rattle.std.specs.Prelude.{◌≡◌, ◌≢◌}
use Rattle.dr_plan_model.specs.Networks.{Network}
use Rattle.dr_plan_sound.specs.declared.certificate.Certificate.{Certificate}
use Rattle.dr_plan_sound.specs.Soundness.{IsSound}
use Rattle.dr_plan_sound.specs.Certificates.{IsCertificateOf}
use Rattle.dr_cert.specs.declared.fault.CertFault.{CertFault}
use Rattle.dr_cert.specs.declared.fault.CertFault.TheVariants.{Memory}
use Rattle.dr_cert.specs.Refusing.{IsRefused}

-- a sound plan with its certificate meets no fault but want of memory
abbrev pub OwnCertificateIsTaken : Type 0
OwnCertificateIsTaken =
    (plan : Network) (certificate : Certificate)
    → IsSound plan
    → IsCertificateOf plan certificate
    → (fault : CertFault)
    → IsRefused plan certificate fault
    → fault ≡ Memory

-- each plan and certificate meets one fault at most, want of memory aside
abbrev pub OneFaultAtMost : Type 0
OneFaultAtMost =
    (plan : Network) (certificate : Certificate) (f g : CertFault)
    → f ≢ Memory → g ≢ Memory
    → IsRefused plan certificate f
    → IsRefused plan certificate g
    → f ≡ g

-- a plan has one certificate at most
abbrev pub OneCertificateAtMost : Type 0
OneCertificateAtMost =
    (plan : Network) (a b : Certificate) → IsCertificateOf plan a → IsCertificateOf plan b → a ≡ b
