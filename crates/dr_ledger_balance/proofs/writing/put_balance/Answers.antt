use Rattle.std.proofs.Common.{◌≡◌, IfOk, subst}
use Rattle.dr_base.specs.Texts.{Text}
use Rattle.dr_ledger_balance.specs.Adding.{balance_of, values_of}
use Rattle.dr_ledger_balance.specs.Balances.{body_of}
use Rattle.dr_ledger_balance.specs.Pieces.{all_spelled}
use Rattle.dr_ledger_balance.specs.Sealing.{sealed}
use Rattle.dr_ledger_balance.specs.Spelling.{arrival_then, end_then, item_then, kept_then, row_then}
use Rattle.dr_ledger_balance.proofs.Added.{five_added}
use Rattle.dr_ledger_balance.proofs.writing.put_balance.Goals as goal

pub returns-clause-text : goal.returns-clause-text
returns-clause-text c =
    let e : c.put_end.new.out.items ≡ body_of (balance_of c.args.count c.args.items.now c.args.arrivals.now c.args.kept.now c.args.rows.now) =
    five_added c.new-out.result.items c.put_items.new.out.items c.put_arrivals.new.out.items c.put_all_kept.new.out.items c.put_rows.new.out.items c.put_end.new.out.items
    (all_spelled item_then (values_of c.args.items.now.entries)) (all_spelled arrival_then c.args.arrivals.now.keys) (all_spelled kept_then c.args.kept.now.keys)
    (all_spelled row_then c.args.rows.now.entries) (end_then c.args.count) c.new-out.ensures.items
    c.in_ok-put_items.ensures.adds c.in_ok-put_arrivals.ensures.adds c.in_ok-put_all_kept.ensures.adds c.in_ok-put_rows.ensures.adds c.in_ok-put_end.ensures in
    subst (λ (t : Text). IfOk c.put_seal.result (λ bytes. bytes.items ≡ sealed t)) e c.put_seal.ensures
