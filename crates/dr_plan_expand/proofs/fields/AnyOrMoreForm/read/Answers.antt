use Rattle.std.proofs.lemmas.Bool.{false≢true}
use Rattle.std.proofs.lemmas.Result.{err_from_is_err_and}
use Rattle.toml.specs.View.{view}
use Rattle.dr_plan_expand.proofs.Saying.{no_any_words}
use Rattle.dr_plan_expand.proofs.fields.AnyOrMoreForm.read.Goals as goal

pub returns-in_err-words-clause-field : goal.returns-in_err-words-clause-field
returns-in_err-words-clause-field c =
    let p = err_from_is_err_and c.from_residual.result c.from_residual.ensures.1 in
    rw (p.1, p.2) (λ e. no_any_words (view c.args.value.now) (λ is. false≢true (c.if-is_star.ensures.1 is)) (c.in_err-words.ensures.field e))

pub returns-clause-ok : goal.returns-clause-ok
returns-clause-ok c = (λ is. false≢true (c.if-is_star.ensures.1 is), c.in_ok-words.ensures.ok)
