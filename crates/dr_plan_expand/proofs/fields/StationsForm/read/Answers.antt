use Rattle.std.proofs.Common.{◌≡◌, List, subst, sym}
use Rattle.std.specs.Prelude.{◌↔◌, Contains}
use Rattle.std.proofs.lemmas.Result.{err_from_is_err_and}
use Rattle.dr_base.specs.Texts.{Text}
use Rattle.dr_plan_expand.proofs.fields.StationsForm.read.Goals as goal

pub returns-in_err-listed-clause-field : goal.returns-in_err-listed-clause-field
returns-in_err-listed-clause-field c =
    let p = err_from_is_err_and c.from_residual.result c.from_residual.ensures.1 in
    rw (p.1, p.2) (λ e stations says. c.in_err-listed.ensures.field e says.0 says.1)

pub returns-clause-ok : goal.returns-clause-ok
returns-clause-ok c = (
  c.in_ok-listed.listed,
  c.in_ok-listed.ensures.ok,
  record { same = rw c.as_slice.ensures at c.in_ok-set.ensures.same; ordered = c.in_ok-set.ensures.ordered },
)
