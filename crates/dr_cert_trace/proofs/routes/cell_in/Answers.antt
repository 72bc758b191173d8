use Rattle.std.proofs.Common.{sym, subst}
use Rattle.dr_route.specs.declared.cell.OwnedCell.{OwnedCell}
use Rattle.dr_plan_model.specs.Plans.{LiesIn}
use Rattle.dr_cert.proofs.Ranking.{lies_there}
use Rattle.dr_cert_trace.proofs.routes.cell_in.Goals as goal

pub returns : goal.returns
returns c =
    let P : OwnedCell → Type 0 = λ cell. LiesIn c.args.plan.now cell c.args.key.now in
    subst P (sym c.in_ok-cell.ensures) (lies_there c.args.plan.now c.in_ok-literals.literals c.args.key.now c.cell_of.result c.in_ok-literals.ensures c.cell_of.ensures)
