use Rattle.std.proofs.lemmas.Result.{err_from_is_err_and}
use Rattle.dr_plan_text.proofs.tables.RuleTableTableForm.read_table.Goals as goal

pub returns-in_err-defaulted-5-clause-field : goal.returns-in_err-defaulted-5-clause-field
returns-in_err-defaulted-5-clause-field c =
    let p = err_from_is_err_and c.from_residual-in_err-defaulted-5.result c.from_residual-in_err-defaulted-5.ensures.1 in
    rw (p.1, p.2) (λ e rule is. c.in_err-defaulted-5.ensures.field e rule.except (rw c.new.ensures is.except))
