-- What the checker answers.
use Rattle.std.specs.Prelude.{◌≤◌, List, Contains, Result, Ok, Err, length}
use Rattle.dr_plan_model.specs.Networks.{Network}
use Rattle.dr_plan_sound.specs.declared.certificate.Line.{Line}
use Rattle.dr_plan_sound.specs.Soundness.{IsSound}
use Rattle.dr_plan_sound.specs.Certificates.{IsCertificateOf}
use Rattle.dr_cert_text.specs.Printable.{IsPrintable, IsDigest}
use Rattle.dr_check.specs.declared.verdict.Verdict.{Verdict}
use Rattle.dr_check.specs.declared.verdict.Verdict.TheVariants.{Yes, No}
use Rattle.dr_check.specs.declared.verdict.CheckFault.{CheckFault}
use Rattle.dr_check.specs.declared.verdict.CheckFault.TheVariants.{TooLarge, Memory}
use Rattle.dr_check.specs.Firsts.{IsNamedFirst, IsFirstOfPlan}
use Rattle.dr_check.specs.Shown.{IsShown, IsTooLarge}

-- Yes: the plan is sound, and the certificate is its own and not too large, and, as the plan's
-- digest is a SHA-256, it can be read back from its text. No: the fault shows itself, its walk is
-- the first one from its entry that shows one, and its entry is the first one of the plan from
-- which a walk does.
abbrev pub Judges : Network → Verdict → Type 0
Judges plan (Yes certificate) =
    IsSound plan
    × IsCertificateOf plan certificate
    × (length certificate.lines ≤ 65536)
    × (IsDigest plan.digest → IsPrintable certificate)
Judges plan (No fault) = IsShown plan fault × IsNamedFirst plan fault × IsFirstOfPlan plan fault

-- what the checker answers: a verdict, or that there are more lines than a certificate may have, or
-- want of memory
abbrev pub AnswersCheck : Network → Result Verdict CheckFault → Type 0
AnswersCheck plan (Ok verdict) = Judges plan verdict
AnswersCheck plan (Err TooLarge) = IsTooLarge plan
AnswersCheck plan (Err Memory) = Unit {0}

-- at most 65,536 lines, and no rank above that number
abbrev pub AreFew : List Line → Type 0
AreFew lines = (length lines ≤ 65536) × ((line : Line) → Contains lines line → line.rank ≤ 65536)
