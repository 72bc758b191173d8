use Rattle.std.proofs.lemmas.Result.{err_from_is_err_and}
use Rattle.dr_plan_expand.proofs.meant.RowsYielding.things.Goals as goal

pub returns-in_err-from-clause-unknown : goal.returns-in_err-from-clause-unknown
returns-in_err-from-clause-unknown c =
    let p = err_from_is_err_and c.from_residual.result c.from_residual.ensures.1 in
    rw (p.1, p.2) (λ e things y. c.in_err-from.ensures.unknown e y.from y.each_caller)

pub returns-in_err-classes-clause-unknown : goal.returns-in_err-classes-clause-unknown
returns-in_err-classes-clause-unknown c =
    let p = err_from_is_err_and c.from_residual-in_err-classes.result c.from_residual-in_err-classes.ensures.1 in
    rw (p.1, p.2) (λ e things y. c.in_err-classes.ensures.unknown e y.classes (rw c.as_slice.ensures y.each_class))

pub returns-in_err-syntaxes-clause-unknown : goal.returns-in_err-syntaxes-clause-unknown
returns-in_err-syntaxes-clause-unknown c =
    let p = err_from_is_err_and c.from_residual-in_err-syntaxes.result c.from_residual-in_err-syntaxes.ensures.1 in
    rw (p.1, p.2) (λ e things y. c.in_err-syntaxes.ensures.unknown e y.syntaxes (rw c.as_slice-2.ensures y.each_syntax))

pub returns-clause-ok : goal.returns-clause-ok
returns-clause-ok c = record {
  from = c.in_ok-from.from;
  classes = c.in_ok-classes.classes;
  syntaxes = c.in_ok-syntaxes.syntaxes;
  each_caller = c.in_ok-from.ensures.ok;
  each_class = rw c.as_slice.ensures at c.in_ok-classes.ensures.ok;
  each_syntax = rw c.as_slice-2.ensures at c.in_ok-syntaxes.ensures.ok;
  are = rw (c.as_slice-3.ensures, c.as_slice-4.ensures) at c.in_ok-rows.ensures;
}
