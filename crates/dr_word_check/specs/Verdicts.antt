-- The verdict on a plan and the text of a certificate.
use Rattle.std.specs.Prelude.{◌≢◌, ◌∷◌, [], ◌++◌, codes}
use Rattle.dr_base.specs.Texts.{Text}
use Rattle.dr_plan_model.specs.Networks.{Network}
use Rattle.dr_plan_sound.specs.declared.certificate.Certificate.{Certificate}
use Rattle.dr_plan_sound.specs.Soundness.{IsSound}
use Rattle.dr_plan_sound.specs.Certificates.{IsCertificateOf}
use Rattle.dr_cert.specs.declared.fault.CertFault.{CertFault}
use Rattle.dr_cert.specs.declared.fault.CertFault.TheVariants as fault
use Rattle.dr_run_open.specs.Sealings.{IsFaultOf, IsTextOf}
use Rattle.dr_word_check.specs.declared.verify.Verification.{Verification}
use Rattle.dr_word_check.specs.declared.verify.Verification.TheVariants.{Yes, No, Memory}
use Rattle.dr_run_open.specs.declared.status.Status.{Status}
use Rattle.dr_run_open.specs.declared.status.Status.TheVariants.{Success, Refused}
use Rattle.dr_run_open.specs.declared.status.Status.TheVariants.{Memory as OutOfMemory}

-- what `verify` may answer on a plan and a text; want of memory may be the answer to any
abbrev pub IsVerdictOn : Network → Text → Verification → Type 0
IsVerdictOn plan text Yes =
    (certificate : Certificate)
    × IsTextOf text certificate
    × IsSound plan
    × IsCertificateOf plan certificate
IsVerdictOn plan text (No refused) = (refused ≢ fault.Memory) × IsFaultOf plan text refused
IsVerdictOn plan text Memory = Unit {0}

-- the code and the name of a fault behind the word no and a tab; want of memory isn't printed so
abbrev pub fault_line : CertFault → Text
fault_line fault.Text = codes "no" ++ (9 ∷ codes "C1 Text") ++ (10 ∷ [])
fault_line fault.OtherPlan = codes "no" ++ (9 ∷ codes "C2 OtherPlan") ++ (10 ∷ [])
fault_line fault.MissingLine = codes "no" ++ (9 ∷ codes "C3 MissingLine") ++ (10 ∷ [])
fault_line fault.WrongRank = codes "no" ++ (9 ∷ codes "C4 WrongRank") ++ (10 ∷ [])
fault_line fault.NoContext = codes "no" ++ (9 ∷ codes "C5 NoContext") ++ (10 ∷ [])
fault_line fault.DeadEnd = codes "no" ++ (9 ∷ codes "C6 DeadEnd") ++ (10 ∷ [])
fault_line fault.HopList = codes "no" ++ (9 ∷ codes "C7 HopList") ++ (10 ∷ [])
fault_line fault.Order = codes "no" ++ (9 ∷ codes "C8 Order") ++ (10 ∷ [])
fault_line fault.Memory = []

-- the line of a verdict: yes, or no with its fault
abbrev pub verdict_line : Verification → Text
verdict_line Yes = codes "yes" ++ (10 ∷ [])
verdict_line (No refused) = fault_line refused
verdict_line Memory = []

-- the status with which the program ends for a verdict
abbrev pub verdict_status : Verification → Status
verdict_status Yes = Success
verdict_status (No refused) = Refused
verdict_status Memory = OutOfMemory
