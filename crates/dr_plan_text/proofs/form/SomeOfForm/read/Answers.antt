use Rattle.std.proofs.lemmas.Result.{err_from_is_err_and}
use Rattle.toml.specs.View.{view}
use Rattle.dr_plan_text.proofs.OneAnswer.{none_said}
use Rattle.dr_plan_text.proofs.form.SomeOfForm.read.Goals as goal

pub returns-in_err-values-clause-field : goal.returns-in_err-values-clause-field
returns-in_err-values-clause-field g c =
    let p = err_from_is_err_and c.from_residual.result c.from_residual.ensures.1 in
    rw (p.1, p.2) (λ e xs says. c.in_err-values.ensures.field e xs says.0)

pub returns-then-is_empty-clause-field : goal.returns-then-is_empty-clause-field
returns-then-is_empty-clause-field g c = λ e xs says.
    none_said g.F.Form.says (view c.args.value.now) c.in_ok-values.values xs c.in_ok-values.ensures.ok c.if-is_empty.ensures says
