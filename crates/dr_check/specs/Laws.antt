-- The answers of the checker exclude each other.
use Rattle.std.specs.Prelude.{◌≡◌, ◌<◌, length}
use Rattle.dr_base.specs.Texts.{Text}
use Rattle.dr_route.specs.declared.cell.OwnedCell.{OwnedCell}
use Rattle.dr_plan_model.specs.Networks.{Network}
use Rattle.dr_plan_model.specs.Plans.{IsWellFormed}
use Rattle.dr_plan_sound.specs.Soundness.{IsSound}
use Rattle.dr_plan_sound.specs.declared.certificate.Certificate.{Certificate}
use Rattle.dr_plan_sound.specs.Certificates.{IsCertificateOf}
use Rattle.dr_check.specs.declared.fault.Fault.{Fault}
use Rattle.dr_check.specs.declared.verdict.Verdict.TheVariants.{No}
use Rattle.dr_check.specs.Answering.{Judges}
use Rattle.dr_check.specs.Firsts.{IsNamedFirst, IsOnWalk}
use Rattle.dr_check.specs.Shown.{IsShown, IsTooLarge}

-- a fault that is shown of a plan is one that no sound plan has
abbrev pub ShownFaultsAreUnsound : Type 0
ShownFaultsAreUnsound = (plan : Network) (fault : Fault) → IsShown plan fault → IsSound plan → ⊥

-- where a plan is too large, its certificate, if it has one, has more than 65,536 lines
abbrev pub TooLargeHasManyLines : Type 0
TooLargeHasManyLines =
    (plan : Network) → IsTooLarge plan → IsSound plan
    → (certificate : Certificate)
    → IsCertificateOf plan certificate
    → 65536 < length certificate.lines

-- of the faults that show themselves on walks of one entry, one is named first
abbrev pub OneIsNamedAtAnEntry : Type 0
OneIsNamedAtAnEntry =
    (plan : Network) (site : Text) (cell : OwnedCell) (f g : Fault)
    → IsOnWalk site cell f → IsOnWalk site cell g → IsShown plan f → IsNamedFirst plan f
    → IsShown plan g → IsNamedFirst plan g → f ≡ g

-- of all faults of a plan, one is named
abbrev pub OneIsNamedFirst : Type 0
OneIsNamedFirst =
    (plan : Network) → IsWellFormed plan → (f g : Fault) → Judges plan (No f) → Judges plan (No g)
    → f ≡ g
