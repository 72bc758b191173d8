use Rattle.std.proofs.Common.{eqb, length, ◌∙◌, sym, ap}
use Rattle.std.proofs.lemmas.Bool.{eqb-true, true≢false}
use Rattle.std.proofs.lemmas.List.{nil_from_length}
use Rattle.dr_ledger_balance.proofs.Bodies.{body_there, goes_on, no_end}
use Rattle.dr_ledger_balance.proofs.Longer.{arrival_longer, item_longer, kept_longer, row_longer}
use Rattle.dr_ledger_balance.proofs.reading.read_body.Goals as goal

pub cut_all-requires : goal.cut_all-requires
cut_all-requires c = item_longer

pub cut_all-requires-2 : goal.cut_all-requires-2
cut_all-requires-2 c = arrival_longer

pub cut_all-requires-3 : goal.cut_all-requires-3
cut_all-requires-3 c = kept_longer

pub cut_all-requires-4 : goal.cut_all-requires-4
cut_all-requires-4 c = row_longer

pub returns-in_default : goal.returns-in_default
returns-in_default c =
    no_end c.args.body.now c.in_ok-items.after_items.now c.in_ok-arrivals.after_arrivals.now c.in_ok-kept.after_kept.now c.in_ok-rows.after_rows.now
    c.in_ok-items.items c.in_ok-arrivals.arrivals c.in_ok-kept.kept c.in_ok-rows.rows c.in_ok-items.ensures c.in_ok-arrivals.ensures c.in_ok-kept.ensures c.in_ok-rows.ensures c.in_default.ensures

pub returns-then-not-is_empty : goal.returns-then-not-is_empty
returns-then-not-is_empty c =
    goes_on c.args.body.now c.in_ok-items.after_items.now c.in_ok-arrivals.after_arrivals.now c.in_ok-kept.after_kept.now c.in_ok-rows.after_rows.now
    c.in_ok-items.items c.in_ok-arrivals.arrivals c.in_ok-kept.kept c.in_ok-rows.rows c.in_ok-items.ensures c.in_ok-arrivals.ensures c.in_ok-kept.ensures c.in_ok-rows.ensures
    c.in-Some.count c.in-Some.rest.now c.in-Some.ensures (λ e. true≢false (sym (ap (λ l. eqb (length l) 0) e) ∙ sym c.is_empty.ensures ∙ c.if-not-is_empty.true))

pub returns : goal.returns
returns c =
    body_there c.args.body.now c.in_ok-items.after_items.now c.in_ok-arrivals.after_arrivals.now c.in_ok-kept.after_kept.now c.in_ok-rows.after_rows.now
    c.in_ok-items.items c.in_ok-arrivals.arrivals c.in_ok-kept.kept c.in_ok-rows.rows c.in_ok-items.ensures c.in_ok-arrivals.ensures c.in_ok-kept.ensures c.in_ok-rows.ensures
    c.in-Some.count c.in-Some.rest.now c.in-Some.ensures (nil_from_length _ (eqb-true _ _ (sym c.is_empty.ensures ∙ c.if-not-is_empty.false)))
