use Rattle.std.proofs.lemmas.Result.{err_from_is_err_and}
use Rattle.dr_plan_text.proofs.Items.{listed_more, not_listed}
use Rattle.dr_plan_text.proofs.form.read_items.Goals as goal

pub returns-in_err-read-clause-field : goal.returns-in_err-read-clause-field
returns-in_err-read-clause-field g c =
    let p = err_from_is_err_and c.from_residual.result c.from_residual.ensures.1 in
    rw (p.1, p.2) (λ e xs is. not_listed g.F.Form.says c.args.items.now c.loop-item.item-index c.item-item.result xs c.loop-item-test.true c.item-item.is (c.in_err-read.ensures.field e) is)

pub loop-item-preserved : goal.loop-item-preserved
loop-item-preserved g c =
    rw c.in_ok-push.ensures.items (listed_more g.F.Form.says c.args.items.now c.loop-item.read.items c.loop-item.item-index c.item-item.result c.in_ok-read.field-0
    c.loop-item-test.true c.item-item.is c.loop-item.invariant c.in_ok-read.ensures.ok)
