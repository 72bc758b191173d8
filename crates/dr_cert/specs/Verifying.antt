-- What the tests of a certificate answer, one after another.
use Rattle.std.specs.Prelude.{◌≡◌, List, IsTrue, Bool, false, Result, Ok, Err}
use Rattle.dr_plan_model.specs.Networks.{Network}
use Rattle.dr_plan_model.specs.Plans.{IsWellFormed}
use Rattle.dr_plan_sound.specs.declared.certificate.Line.{Line}
use Rattle.dr_plan_sound.specs.declared.certificate.Certificate.{Certificate}
use Rattle.dr_plan_sound.specs.Soundness.{IsSound}
use Rattle.dr_plan_sound.specs.Certificates.{IsCertificateOf}
use Rattle.dr_plan_sound.specs.Ranked.{AreRanked}
use Rattle.dr_cert.specs.declared.fault.CertFault.{CertFault}
use Rattle.dr_cert.specs.Conditions.{UpToOrder, UpToReach, HasRightRanks}
use Rattle.dr_cert.specs.Refusing.{IsRefused}

-- what the first tests of a certificate answer: it is of this plan and in order, or why it is
-- refused
abbrev pub TestsUpToOrder : Network → Certificate → Result (Unit {0}) CertFault → Type 0
TestsUpToOrder plan certificate (Ok nothing) = UpToOrder plan certificate
TestsUpToOrder plan certificate (Err fault) = IsRefused plan certificate fault

-- the local test of ranks: where it holds, each line of the index is right among the others; else
-- some rank is wrong
abbrev pub IsToldOfRanks : Network → List Line → Bool → Type 0
IsToldOfRanks plan index ranked =
    (IsTrue ranked → AreRanked plan index) × (ranked ≡ false → HasRightRanks plan index → ⊥)

-- what the walk over the lines answers: all conditions up to the ranks hold, and whether the local
-- test of ranks does; or why the certificate is refused
abbrev pub Walks : Network → Certificate → List Line → Result Bool CertFault → Type 0
Walks plan certificate index (Ok ranked) =
    IsWellFormed plan × UpToReach plan certificate × IsToldOfRanks plan index ranked
Walks plan certificate index (Err fault) = IsRefused plan certificate fault

-- what all tests together answer: the plan is sound and the certificate is its own; or why it is
-- refused
abbrev pub Verifies : Network → Certificate → List Line → Result (Unit {0}) CertFault → Type 0
Verifies plan certificate index (Ok nothing) =
    IsWellFormed plan × IsSound plan × IsCertificateOf plan certificate × AreRanked plan index
Verifies plan certificate index (Err fault) = IsRefused plan certificate fault
