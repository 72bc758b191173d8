use Rattle.std.proofs.Common.{inr}
use Rattle.std.proofs.lemmas.Result.{err_from_is_err_and}
use Rattle.toml.specs.View.{table_view}
use Rattle.dr_plan_expand.proofs.Expanded.{fails, own_if, not_own_if}
use Rattle.dr_plan_expand.proofs.expand.expand.Goals as goal

pub returns-in_err-core-clause-fails : goal.returns-in_err-core-clause-fails
returns-in_err-core-clause-fails c =
    let p = err_from_is_err_and c.from_residual.result c.from_residual.ensures.1 in
    rw (p.1, p.2) (fails (table_view c.args.root.now) c.in_err-core.field-0.0 c.in_err-core.ensures.field c.in_err-core.ensures.limit c.in_err-core.ensures.unknown)

pub returns-then-not-branch-clause-fails : goal.returns-then-not-branch-clause-fails
returns-then-not-branch-clause-fails c = inr (c.in_ok-core.core, c.in_ok-core.ensures.ok, not_own_if c.in_ok-core.core c.in_ok-is_own.field-0 c.in_ok-is_own.ensures c.if-not-branch.true)

pub returns-clause-ok : goal.returns-clause-ok
returns-clause-ok c = (c.in_ok-core.ensures.ok, own_if c.in_ok-core.core c.in_ok-is_own.field-0 c.in_ok-is_own.ensures c.if-not-branch.false)
