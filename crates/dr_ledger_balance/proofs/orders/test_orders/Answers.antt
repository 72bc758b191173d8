use Rattle.std.proofs.Common.{Err, List, subst}
use Rattle.std.proofs.lemmas.Result.{err_from_is_err_and}
use Rattle.dr_base.specs.Texts.{Text, text_cmp}
use Rattle.dr_ledger.specs.Pairs.{Pair, pair_cmp}
use Rattle.dr_ledger.specs.declared.item.Instance.{Instance}
use Rattle.dr_ledger.specs.declared.item.Progress.{Progress}
use Rattle.dr_ledger_balance.specs.Orders.{AnswersOrder, AreItemsInOrder, ArePairsInOrder, AreRowsInOrder, AreTextsInOrder, item_cmp, row_cmp}
use Rattle.dr_ledger_balance.proofs.Rising.{in_arrivals, in_items, in_kept, in_rows, items_total, pairs_total, rows_total, texts_total}
use Rattle.dr_ledger_balance.proofs.orders.test_orders.Goals as goal

pub test_order-requires : goal.test_order-requires
test_order-requires c = items_total

pub test_order-requires-2 : goal.test_order-requires-2
test_order-requires-2 c = pairs_total

pub test_order-requires-3 : goal.test_order-requires-3
test_order-requires-3 c = texts_total

pub test_order-requires-4 : goal.test_order-requires-4
test_order-requires-4 c = rows_total

pub returns-in_err-test_order : goal.returns-in_err-test_order
returns-in_err-test_order c =
    let p = err_from_is_err_and c.from_residual.result c.from_residual.ensures.1 in
    rw (p.1, p.2)
    (in_items c.args.balance.now c.in_err-test_order.field-0.0
    (subst (λ (l : List (Instance)). AnswersOrder item_cmp l (Err c.in_err-test_order.field-0.0)) c.as_slice.ensures c.in_err-test_order.ensures))

pub returns-in_err-test_order-2 : goal.returns-in_err-test_order-2
returns-in_err-test_order-2 c =
    let p = err_from_is_err_and c.from_residual-in_err-test_order-2.result c.from_residual-in_err-test_order-2.ensures.1 in
    rw (p.1, p.2)
    (in_arrivals c.args.balance.now c.in_err-test_order-2.field-0.0
    (subst (λ (l : List (Pair)). AnswersOrder pair_cmp l (Err c.in_err-test_order-2.field-0.0)) c.as_slice-2.ensures c.in_err-test_order-2.ensures))

pub returns-in_err-test_order-3 : goal.returns-in_err-test_order-3
returns-in_err-test_order-3 c =
    let p = err_from_is_err_and c.from_residual-in_err-test_order-3.result c.from_residual-in_err-test_order-3.ensures.1 in
    rw (p.1, p.2)
    (in_kept c.args.balance.now c.in_err-test_order-3.field-0.0
    (subst (λ (l : List (Text)). AnswersOrder text_cmp l (Err c.in_err-test_order-3.field-0.0)) c.as_slice-3.ensures c.in_err-test_order-3.ensures))

pub returns-in_err-test_order-4 : goal.returns-in_err-test_order-4
returns-in_err-test_order-4 c =
    let p = err_from_is_err_and c.from_residual-in_err-test_order-4.result c.from_residual-in_err-test_order-4.ensures.1 in
    rw (p.1, p.2)
    (in_rows c.args.balance.now c.in_err-test_order-4.field-0.0
    (subst (λ (l : List (Pair × Progress)). AnswersOrder row_cmp l (Err c.in_err-test_order-4.field-0.0)) c.as_slice-4.ensures c.in_err-test_order-4.ensures))

pub returns : goal.returns
returns c = record {
  items = subst AreItemsInOrder c.as_slice.ensures c.in_ok-test_order.ensures;
  arrivals = subst ArePairsInOrder c.as_slice-2.ensures c.in_ok-test_order-2.ensures;
  kept = subst AreTextsInOrder c.as_slice-3.ensures c.in_ok-test_order-3.ensures;
  rows = subst AreRowsInOrder c.as_slice-4.ensures c.in_ok-test_order-4.ensures;
}
