use Rattle.std.proofs.Common.{◌≡◌, List, take, refl, subst, arith}
use Rattle.std.proofs.lemmas.List.{take_all}
use Rattle.dr_ledger.specs.Books.{Row}
use Rattle.dr_ledger_views.specs.Views.{IsLeast, dues}
use Rattle.dr_ledger_views.proofs.Least.{due_more}
use Rattle.dr_ledger_views.proofs.listed.first_due.Goals as goal

pub loop-row-init : goal.loop-row-init
loop-row-init c = refl

pub loop-row-preserved : goal.loop-row-preserved
loop-row-preserved c =
    due_more c.args.rows.now c.args.dest.now c.loop-row.row-index c.row-item.result c.loop-row.least c.due_for.result c.earlier-least.result c.loop-row-test.true c.row-item.is c.loop-row.invariant c.due_for.ensures c.earlier-least.ensures

pub returns : goal.returns
returns c =
    let rows = c.args.rows.now in
    let all : take c.loop-row.row-index rows ≡ rows = take_all _ _ (omega arith) in
    subst (λ (rs : List Row). IsLeast (dues rs c.args.dest.now) c.loop-row.least) all c.loop-row.invariant
