use Rattle.std.proofs.Common.{◌≡◌, ◌∙◌, ◌∷◌, ◌+◌, drop, sym, ap, arith}
use Rattle.std.proofs.lemmas.List.{drop_all, drop_more}
use Rattle.dr_ledger.specs.Books.{with_rows}
use Rattle.dr_ledger.specs.Pairs.{pair_cmp}
use Rattle.dr_ledger_history.specs.Trees.{as_map}
use Rattle.dr_ledger_history.proofs.Mapped.{row_filled, rows_filled}
use Rattle.dr_ledger_history.proofs.trees.fill.Goals as goal

pub loop-dest-preserved : goal.loop-dest-preserved
loop-dest-preserved c =
    let to = c.args.to.now in
    let i = c.loop-dest.dest-index in
    let m = as_map pair_cmp c.loop-dest.rows in
    let e = drop_more to i c.dest-item.result c.loop-dest-test.true in
    let more : drop i to ≡ c.dest-item.result ∷ drop (i + 1) to = rw (← c.dest-item.is) at e in
    row_filled m (as_map pair_cmp c.fill_one.new.rows) c.args.uid.now c.dest-item.result (drop (i + 1) to) c.in_ok-fill_one.ensures
    ∙ (ap (with_rows m c.args.uid.now) (sym more) ∙ c.loop-dest.invariant)

pub returns : goal.returns
returns c =
    let to = c.args.to.now in
    let i = c.loop-dest.dest-index in
    sym (rows_filled (as_map pair_cmp c.loop-dest.rows) c.args.uid.now (drop i to) (drop_all i to (omega (arith, c.loop-dest-test.false)))) ∙ c.loop-dest.invariant
