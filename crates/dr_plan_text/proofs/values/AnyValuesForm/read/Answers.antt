use Rattle.std.proofs.lemmas.Bool.{false≢true}
use Rattle.std.proofs.lemmas.Result.{err_from_is_err_and}
use Rattle.toml.specs.View.{view}
use Rattle.dr_plan_text.proofs.OfValues.{no_values}
use Rattle.dr_plan_text.proofs.values.AnyValuesForm.read.Goals as goal

pub returns-in_err-patterns-clause-field : goal.returns-in_err-patterns-clause-field
returns-in_err-patterns-clause-field c =
    let p = err_from_is_err_and c.from_residual.result c.from_residual.ensures.1 in
    rw (p.1, p.2) (λ e. no_values (view c.args.value.now) (λ is. false≢true (c.if-is_star.ensures.1 is)) (c.in_err-patterns.ensures.field e))

pub returns-clause-ok : goal.returns-clause-ok
returns-clause-ok c = (
  c.in_ok-patterns.patterns,
  c.in_ok-patterns.ensures.ok,
  rw c.as_slice.ensures at c.in_ok-values.ensures.0,
  rw c.as_slice.ensures at c.in_ok-values.ensures.1,
)
