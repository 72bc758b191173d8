use Rattle.std.proofs.Common.{refl}
use Rattle.std.proofs.lemmas.Result.{err_from_is_err_and}
use Rattle.dr_plan_expand.proofs.meant.WholeNodesYielding.things.Goals as goal

pub returns-in_err-accepts-clause-unknown : goal.returns-in_err-accepts-clause-unknown
returns-in_err-accepts-clause-unknown c =
    let p = err_from_is_err_and c.from_residual.result c.from_residual.ensures.1 in
    rw (p.1, p.2) (λ e things y. c.in_err-accepts.ensures.unknown e y.accepts (rw c.as_slice.ensures y.each_row))

pub returns-in_err-rules-clause-unknown : goal.returns-in_err-rules-clause-unknown
returns-in_err-rules-clause-unknown c =
    let p = err_from_is_err_and c.from_residual-in_err-rules.result c.from_residual-in_err-rules.ensures.1 in
    rw (p.1, p.2) (λ e things y. c.in_err-rules.ensures.unknown e y.rules (rw c.as_slice-2.ensures y.each_rule))

pub returns-clause-ok : goal.returns-clause-ok
returns-clause-ok c = record {
  accepts = c.in_ok-accepts.accepts;
  rules = c.in_ok-rules.rules;
  each_row = rw c.as_slice.ensures at c.in_ok-accepts.ensures.ok;
  each_rule = rw c.as_slice-2.ensures at c.in_ok-rules.ensures.ok;
  are = rw (c.in_ok-push.ensures.ok, c.new-nodes.ensures, c.in_ok-whole.ensures) refl;
}
