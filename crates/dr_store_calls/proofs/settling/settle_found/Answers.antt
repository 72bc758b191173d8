use Rattle.std.proofs.Common.{◌≡◌, ◌∙◌, Some, rules, sym}
use Rattle.sqlite.specs.Held.{state}
use Rattle.dr_ledger.specs.declared.item.Progress.TheVariants.{Waiting}
use Rattle.dr_store_calls.specs.Calling.{advanced}
use Rattle.dr_store_calls.proofs.Calls.{asked_as}
use Rattle.dr_store_calls.proofs.settling.settle_found.Goals as goal

pub returns-in-Some-Waiting-clause-called : goal.returns-in-Some-Waiting-clause-called
returns-in-Some-Waiting-clause-called g c part =
    let there : c.args.found ≡ Some (Waiting c.in-Some-Waiting.tries c.in-Some-Waiting.due) = search rules in
    asked_as c.args.n (advanced c.settle_row.result c.args.n) part c.settle_row.result (state g.S.Store c.args.conn.now) (state g.S.Store c.settle_row.new.conn) _ _ _ _
    (λ past base l found. sym found ∙ there) (c.settle_row.ensures.called part)
