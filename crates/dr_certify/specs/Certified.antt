-- What it is to print a plan's certificate.
use Rattle.std.specs.Prelude.{◌≡◌, ◌≢◌, ◌⊎◌, ℕ, List, Result, Ok, Err, Some, None}
use Rattle.std.specs.declared.option.Option.{Option}
use Rattle.std.specs.Io.KnownBytes.{Appends}
use Rattle.dr_base.specs.Texts.{Text}
use Rattle.dr_plan_model.specs.Networks.{Network}
use Rattle.dr_plan_model.specs.declared.plan.Format.TheVariants.{Three}
use Rattle.dr_plan_sound.specs.declared.certificate.Certificate.{Certificate}
use Rattle.dr_plan_sound.specs.Soundness.{IsSound}
use Rattle.dr_plan_sound.specs.Certificates.{IsCertificateOf}
use Rattle.dr_cert_text.specs.CertificateText.{certificate_text}
use Rattle.dr_cert_text.specs.Printable.{IsPrintable}
use Rattle.dr_plan_core.specs.Reading.{ReadsCore}
use Rattle.dr_plan_core.specs.declared.fault.PlanFault.{PlanFault}
use Rattle.dr_plan_core.specs.declared.fault.PlanFault.TheVariants.{Memory as NoMemory}
use Rattle.dr_check.specs.Answering.{Judges}
use Rattle.dr_check.specs.Shown.{IsTooLarge}
use Rattle.dr_check.specs.declared.verdict.Verdict.TheVariants.{No}
use Rattle.dr_certify.specs.declared.certificate.Refusal.{Refusal}
use Rattle.dr_certify.specs.declared.certificate.Refusal.TheVariants.{Unsound, TooLarge, Memory}

-- the plan is sound, and this is the text of its certificate, which can be read back
pub record HasCertificate (plan : Network) (output : Text) : Type 0 where
  pub certificate : Certificate
  pub sound : IsSound plan
  pub own : IsCertificateOf plan certificate
  pub printable : IsPrintable certificate
  pub printed : output ≡ certificate_text certificate

-- what a plan comes to: its certificate; the fault that is named first of those that show that it
-- isn't sound; or that it would have too many lines; any may come to want of memory
abbrev pub Certifies : Network → Result Text Refusal → Type 0
Certifies plan (Ok output) = HasCertificate plan output
Certifies plan (Err (Unsound fault)) = Judges plan (No fault)
Certifies plan (Err TooLarge) = IsTooLarge plan
Certifies plan (Err Memory) = Unit {0}

-- the plan has a fault that shows itself, or too many lines
abbrev pub IsRefused : Network → Type 0
IsRefused plan = (refusal : Refusal) × (refusal ≢ Memory) × Certifies plan (Err refusal)

-- what is found of a plan: its certificate; or none, as of each that is to be expanded first
abbrev pub FindsOf : Network → Option Text → Type 0
FindsOf plan (Some output) = (plan.format ≢ Three) × HasCertificate plan output
FindsOf plan None = (plan.format ≡ Three) ⊎ IsRefused plan

-- the text writes, as it stands, a sound plan of format 1 or 2, and this is the text of the plan's
-- certificate
pub record IsCertifiedCore (text output : Text) : Type 0 where
  pub plan : Network
  pub reads : ReadsCore text (Ok plan)
  pub format : plan.format ≢ Three
  pub has : HasCertificate plan output

-- the text, as it stands, has a fault other than want of memory, or it writes a plan of format 3,
-- or one with a fault that shows itself, or with too many lines
abbrev pub HasNoCertificate : Text → Type 0
HasNoCertificate text =
    ((fault : PlanFault) × (fault ≢ NoMemory) × ReadsCore text (Err fault))
    ⊎ ((plan : Network) × ReadsCore text (Ok plan) × FindsOf plan None)

-- what a text comes to: its certificate, or that it has none
abbrev pub FindsCertificate : Text → Option Text → Type 0
FindsCertificate text (Some output) = IsCertifiedCore text output
FindsCertificate text None = HasNoCertificate text

-- the text's certificate is printed after what the output held
abbrev pub Prints : Text → Option (List ℕ) → Option (List ℕ) → Type 0
Prints text old new = (output : Text) × IsCertifiedCore text output × Appends old new output
