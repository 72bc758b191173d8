-- What follows for a plan and for a text whose certificate is printed.
use Rattle.std.specs.Prelude.{◌≡◌}
use Rattle.dr_base.specs.Texts.{Text}
use Rattle.dr_plan_model.specs.Networks.{Network}
use Rattle.dr_certify.specs.Certified.{HasCertificate, IsRefused, IsCertifiedCore, HasNoCertificate}

-- no plan has a certificate and is refused
abbrev pub NoPlanHasBoth : Type 0
NoPlanHasBoth = (plan : Network) (output : Text) → HasCertificate plan output → IsRefused plan → ⊥

-- no text has a certificate and none
abbrev pub NoTextHasBoth : Type 0
NoTextHasBoth = (text output : Text) → IsCertifiedCore text output → HasNoCertificate text → ⊥

-- plans for which the same is printed have the same certificate
abbrev pub OneCertificateIsPrintedOfPlans : Type 0
OneCertificateIsPrintedOfPlans =
    (a b : Network) (output : Text)
    (one : HasCertificate a output) (other : HasCertificate b output)
    → one.certificate ≡ other.certificate
