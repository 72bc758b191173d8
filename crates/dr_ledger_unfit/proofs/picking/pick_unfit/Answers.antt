use Rattle.std.proofs.Common.{List, arith, subst}
use Rattle.std.proofs.lemmas.List.{take_all}
use Rattle.dr_ledger.specs.Books.{Row}
use Rattle.dr_ledger_history.specs.Contents.{content}
use Rattle.dr_ledger_unfit.specs.Unfit.{ArePicked, IsFitRow, IsUnfitRow}
use Rattle.dr_ledger_unfit.proofs.Picked.{picked_more}
use Rattle.dr_ledger_unfit.proofs.picking.pick_unfit.Goals as goal

pub loop-row-preserved : goal.loop-row-preserved
loop-row-preserved c =
    picked_more (IsUnfitRow c.args.next.now.plan c.args.name.now (content c.args.history.now.parts).items) (IsFitRow c.args.next.now.plan c.args.name.now (content c.args.history.now.parts).items)
    c.args.rows.now c.loop-row.row-index c.row-item.result c.loop-row.found.items c.add_if.new.found.items c.in_ok-unfit.unfit c.loop-row-test.true c.row-item.is c.loop-row.invariant c.in_ok-unfit.ensures c.in_ok-add_if.ensures

pub returns : goal.returns
returns c =
    subst (λ (rs : List Row). ArePicked (IsUnfitRow c.args.next.now.plan c.args.name.now (content c.args.history.now.parts).items) (IsFitRow c.args.next.now.plan c.args.name.now (content c.args.history.now.parts).items) rs c.loop-row.found.items)
    (take_all c.loop-row.row-index c.args.rows.now (omega (arith, c.loop-row-test.false))) c.loop-row.invariant
