use Rattle.std.proofs.Common.{◌∙◌, ap, sym}
use Rattle.dr_store_audit.proofs.Stocked.{uid_at}
use Rattle.dr_store_audit.proofs.stock.stock_all.Goals as goal

pub returns-in-Err : goal.returns-in-Err
returns-in-Err c other same =
    let key = c.index-keys-i.result in
    let print = c.index-prints-i.result in
    c.in-Err.ensures other (ap (λ e. e.0) c.index-prints-i.is
    ∙ sym (uid_at c.args.keys.now c.args.prints.now c.loop-i.i key print same c.loop-i-test.true)
    ∙ ap (λ e. e.0) (sym c.index-keys-i.is))
