-- The pairs that go over a hop, as a list.
use Rattle.std.specs.Prelude.{List}
use Rattle.dr_base.specs.Texts.{Text}
use Rattle.dr_base.specs.declared.syntax.Syntax.{Syntax}
use Rattle.dr_plan_model.specs.Networks.{Network}
use Rattle.dr_plan_model.specs.Plans.{IsWellFormed}
use Rattle.dr_plan_sound.specs.declared.certificate.Certificate.{Certificate}
use Rattle.dr_plan_sound.specs.Soundness.{IsSound}
use Rattle.dr_plan_sound.specs.Certificates.{IsCertificateOf, AreHopPairs}

-- Of a sound plan with its certificate, the pairs that go over each hop make a list in byte order,
-- so each of them has a number there.
abbrev pub HopsHaveLists : Type 0
HopsHaveLists =
    (plan : Network) (certificate : Certificate)
    → IsWellFormed plan → IsSound plan
    → IsCertificateOf plan certificate
    → (from to : Text)
    → (all : List (Text × Syntax)) × AreHopPairs plan from to all
