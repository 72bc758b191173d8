use Rattle.std.proofs.Common.{refl}
use Rattle.std.proofs.lemmas.Result.{err_from_is_err_and}
use Rattle.dr_plan_expand.proofs.meant.meant.Goals as goal

pub returns-in_err-nodes-clause-unknown : goal.returns-in_err-nodes-clause-unknown
returns-in_err-nodes-clause-unknown c =
    let p = err_from_is_err_and c.from_residual.result c.from_residual.ensures.1 in
    rw (p.1, p.2) (λ e plan y. c.in_err-nodes.ensures.unknown e plan.nodes (rw (c.tables_of-tables.ensures, c.as_slice.ensures) y.nodes))

pub returns-in_err-flows-clause-unknown : goal.returns-in_err-flows-clause-unknown
returns-in_err-flows-clause-unknown c =
    let p = err_from_is_err_and c.from_residual-in_err-flows.result c.from_residual-in_err-flows.ensures.1 in
    rw (p.1, p.2) (λ e plan y. c.in_err-flows.ensures.unknown e plan.flows (rw (c.tables_of-tables.ensures, c.as_slice-2.ensures) y.flows))

pub returns-clause-ok : goal.returns-clause-ok
returns-clause-ok c = record {
  format = refl;
  nodes = rw (c.tables_of-tables.ensures, c.as_slice.ensures) at c.in_ok-nodes.ensures.ok;
  flows = rw (c.tables_of-tables.ensures, c.as_slice-2.ensures) at c.in_ok-flows.ensures.ok;
}
