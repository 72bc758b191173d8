-- Why a plan and a certificate are refused: the first condition that fails.
use Rattle.std.specs.Prelude.{◌≡◌, ◌⊎◌, Result, Ok, Err}
use Rattle.dr_plan_model.specs.Networks.{Network}
use Rattle.dr_plan_sound.specs.declared.certificate.Certificate.{Certificate}
use Rattle.dr_plan_sound.specs.Soundness.{IsSound}
use Rattle.dr_plan_sound.specs.Certificates.{IsCertificateOf}
use Rattle.dr_cert.specs.Sealing.{Certified}
use Rattle.dr_cert_text.specs.declared.fault.CertificateFault.{CertificateFault}
use Rattle.dr_cert_text.specs.declared.fault.CertificateFault.TheVariants as read
use Rattle.dr_cert.specs.declared.fault.CertFault.{CertFault}
use Rattle.dr_cert.specs.declared.fault.CertFault.TheVariants.{Text, OtherPlan, Order, MissingLine}
use Rattle.dr_cert.specs.declared.fault.CertFault.TheVariants.{NoContext, DeadEnd, WrongRank}
use Rattle.dr_cert.specs.declared.fault.CertFault.TheVariants.{HopList, Memory}
use Rattle.dr_cert.specs.Conditions.{IsOfPlan, IsInOrder, HasEachLine, AcceptsEachHop}
use Rattle.dr_cert.specs.Conditions.{GoesOnEverywhere, ReachesEachLine, HasRightRanks, HasRightHops}
use Rattle.dr_cert.specs.Conditions.{UpToOrder, UpToLines, UpToContexts, UpToEnds, UpToReach}
use Rattle.dr_cert.specs.Conditions.{UpToRanks}

-- the conditions before this one hold, and this one doesn't
abbrev pub FailsAfter : Type 0 → Type 0 → Type 0
FailsAfter before condition = before × (condition → ⊥)

-- each fault is named just where its condition is the first that fails
abbrev pub IsRefused : Network → Certificate → CertFault → Type 0
IsRefused plan certificate Text = ⊥
IsRefused plan certificate OtherPlan = IsOfPlan plan certificate → ⊥
IsRefused plan certificate Order =
    FailsAfter (IsOfPlan plan certificate) (IsInOrder certificate)
    ⊎ FailsAfter (UpToEnds plan certificate) (ReachesEachLine plan certificate.lines)
IsRefused plan certificate MissingLine =
    FailsAfter (UpToOrder plan certificate) (HasEachLine plan certificate.lines)
IsRefused plan certificate NoContext = FailsAfter (UpToLines plan certificate) (AcceptsEachHop plan)
IsRefused plan certificate DeadEnd =
    FailsAfter (UpToContexts plan certificate) (GoesOnEverywhere plan)
IsRefused plan certificate WrongRank =
    FailsAfter (UpToReach plan certificate) (HasRightRanks plan certificate.lines)
IsRefused plan certificate HopList =
    FailsAfter (UpToRanks plan certificate) (HasRightHops plan certificate.hops)
IsRefused plan certificate Memory = Unit {0}

-- the fault of a certificate whose text isn't read, by the same name
abbrev pub named_for : CertificateFault → CertFault
named_for read.Text = Text
named_for read.Memory = Memory

-- what sealing answers: a sound plan with its own certificate, as they are; else the first
-- condition that fails
abbrev pub Seals : Network → Certificate → Result Certified CertFault → Type 0
Seals plan certificate (Ok sealed) =
    (sealed ≡ record { plan = plan; certificate = certificate })
    × IsSound plan
    × IsCertificateOf plan certificate
Seals plan certificate (Err fault) = IsRefused plan certificate fault
