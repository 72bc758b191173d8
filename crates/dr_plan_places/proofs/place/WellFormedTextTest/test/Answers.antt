use Rattle.std.proofs.Common.{sym, subst}
use Rattle.std.proofs.lemmas.Bool.{false≢true}
use Rattle.dr_plan_model.specs.Formed.{IsName}
use Rattle.dr_plan_places.proofs.Flawed.{flawed}
use Rattle.dr_plan_places.proofs.place.WellFormedTextTest.test.Goals as goal

pub returns-in-Some : goal.returns-in-Some
returns-in-Some c = (
  λ h. absurd (false≢true h),
  λ is. absurd (flawed c.as_bytes.result.now c.in-Some.field-0 c.in-Some.ensures (subst IsName (sym c.as_bytes.ensures) is)),
)
