use Rattle.std.proofs.lemmas.Result.{err_from_is_err_and}
use Rattle.dr_plan_expand.proofs.meant.FlowsYielding.things.Goals as goal

pub returns-in_err-ats-clause-unknown : goal.returns-in_err-ats-clause-unknown
returns-in_err-ats-clause-unknown c =
    let p = err_from_is_err_and c.from_residual.result c.from_residual.ensures.1 in
    rw (p.1, p.2) (λ e things y. c.in_err-ats.ensures.unknown e y.ats (rw c.as_slice.ensures y.each_at))

pub returns-in_err-tos-clause-unknown : goal.returns-in_err-tos-clause-unknown
returns-in_err-tos-clause-unknown c =
    let p = err_from_is_err_and c.from_residual-in_err-tos.result c.from_residual-in_err-tos.ensures.1 in
    rw (p.1, p.2) (λ e things y. c.in_err-tos.ensures.unknown e y.tos (rw c.as_slice-2.ensures y.each_to))

pub returns-in_err-classes-clause-unknown : goal.returns-in_err-classes-clause-unknown
returns-in_err-classes-clause-unknown c =
    let p = err_from_is_err_and c.from_residual-in_err-classes.result c.from_residual-in_err-classes.ensures.1 in
    rw (p.1, p.2) (λ e things y. c.in_err-classes.ensures.unknown e y.classes (rw c.as_slice-3.ensures y.each_class))

pub returns-in_err-syntaxes-clause-unknown : goal.returns-in_err-syntaxes-clause-unknown
returns-in_err-syntaxes-clause-unknown c =
    let p = err_from_is_err_and c.from_residual-in_err-syntaxes.result c.from_residual-in_err-syntaxes.ensures.1 in
    rw (p.1, p.2) (λ e things y. c.in_err-syntaxes.ensures.unknown e y.syntaxes (rw c.as_slice-4.ensures y.each_syntax))

pub returns-clause-ok : goal.returns-clause-ok
returns-clause-ok c = record {
  ats = c.in_ok-ats.ats;
  tos = c.in_ok-tos.tos;
  classes = c.in_ok-classes.classes;
  syntaxes = c.in_ok-syntaxes.syntaxes;
  each_at = rw c.as_slice.ensures at c.in_ok-ats.ensures.ok;
  each_to = rw c.as_slice-2.ensures at c.in_ok-tos.ensures.ok;
  each_class = rw c.as_slice-3.ensures at c.in_ok-classes.ensures.ok;
  each_syntax = rw c.as_slice-4.ensures at c.in_ok-syntaxes.ensures.ok;
  are = rw (c.as_slice-5.ensures, c.as_slice-6.ensures, c.as_slice-7.ensures, c.as_slice-8.ensures) at c.in_ok-flows.ensures;
}
