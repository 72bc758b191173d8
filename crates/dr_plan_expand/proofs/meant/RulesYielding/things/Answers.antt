use Rattle.std.proofs.lemmas.Result.{err_from_is_err_and}
use Rattle.dr_plan_expand.proofs.meant.RulesYielding.things.Goals as goal

pub returns-in_err-froms-clause-unknown : goal.returns-in_err-froms-clause-unknown
returns-in_err-froms-clause-unknown c =
    let p = err_from_is_err_and c.from_residual.result c.from_residual.ensures.1 in
    rw (p.1, p.2) (λ e things y. c.in_err-froms.ensures.unknown e y.froms y.each_caller)

pub returns-in_err-classes-clause-unknown : goal.returns-in_err-classes-clause-unknown
returns-in_err-classes-clause-unknown c =
    let p = err_from_is_err_and c.from_residual-in_err-classes.result c.from_residual-in_err-classes.ensures.1 in
    rw (p.1, p.2) (λ e things y. c.in_err-classes.ensures.unknown e y.classes y.each_class)

pub returns-in_err-to-clause-unknown : goal.returns-in_err-to-clause-unknown
returns-in_err-to-clause-unknown c =
    let p = err_from_is_err_and c.from_residual-in_err-to.result c.from_residual-in_err-to.ensures.1 in
    rw (p.1, p.2) (λ e things y. c.in_err-to.ensures.unknown e y.to (rw c.as_slice.ensures y.each_target))

pub returns-clause-ok : goal.returns-clause-ok
returns-clause-ok c = record {
  froms = c.in_ok-froms.froms;
  classes = c.in_ok-classes.classes;
  to = c.in_ok-to.to;
  each_caller = c.in_ok-froms.ensures.ok;
  each_class = c.in_ok-classes.ensures.ok;
  each_target = rw c.as_slice.ensures at c.in_ok-to.ensures.ok;
  are = rw (c.as_slice-2.ensures, c.as_slice-3.ensures, c.as_slice-4.ensures) at c.in_ok-rules.ensures;
}
