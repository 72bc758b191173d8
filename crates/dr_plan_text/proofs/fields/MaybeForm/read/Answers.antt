use Rattle.std.proofs.lemmas.Result.{err_from_is_err_and}
use Rattle.toml.specs.View.{view}
use Rattle.dr_plan_text.proofs.Listened.{says_no_other}
use Rattle.dr_plan_text.proofs.fields.MaybeForm.read.Goals as goal

pub returns-in_err-read-clause-field : goal.returns-in_err-read-clause-field
returns-in_err-read-clause-field g c =
    let p = err_from_is_err_and c.from_residual.result c.from_residual.ensures.1 in
    rw (p.1, p.2) (λ e. says_no_other g.F.Form.says (view c.args.value.now) (c.in_err-read.ensures.field e))
