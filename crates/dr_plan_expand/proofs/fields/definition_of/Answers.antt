use Rattle.std.proofs.Common.{◌∙◌}
use Rattle.std.proofs.lemmas.Result.{err_from_is_err_and}
use Rattle.dr_plan_expand.proofs.fields.definition_of.Goals as goal

pub returns-in_err-words-clause-field : goal.returns-in_err-words-clause-field
returns-in_err-words-clause-field c =
    let p = err_from_is_err_and c.from_residual.result c.from_residual.ensures.1 in
    rw (p.1, p.2) (λ e x is. c.in_err-words.ensures.field e x.words is.words)

pub returns-clause-ok : goal.returns-clause-ok
returns-clause-ok c = record { name = c.in_ok-name.ensures ∙ c.as_bytes.ensures.value; words = c.in_ok-words.ensures.ok }
