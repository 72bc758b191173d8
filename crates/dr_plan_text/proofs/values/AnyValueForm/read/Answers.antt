use Rattle.std.proofs.lemmas.Bool.{false≢true}
use Rattle.std.proofs.lemmas.Result.{err_from_is_err_and}
use Rattle.toml.specs.View.{view}
use Rattle.dr_plan_text.proofs.OfValues.{no_value, named_is}
use Rattle.dr_plan_text.proofs.values.AnyValueForm.read.Goals as goal

pub returns-in_err-named-clause-field : goal.returns-in_err-named-clause-field
returns-in_err-named-clause-field c =
    let p = err_from_is_err_and c.from_residual.result c.from_residual.ensures.1 in
    rw (p.1, p.2) (λ e. no_value (view c.args.value.now) (λ is. false≢true (c.if-is_star.ensures.1 is)) (c.in_err-named.ensures.field e))

pub returns-clause-ok : goal.returns-clause-ok
returns-clause-ok c = named_is (view c.args.value.now) c.in_ok-named.named c.in_ok-named.ensures.ok
