use Rattle.std.proofs.Common.{◌≡◌, ◌∙◌, Some, rules, sym}
use Rattle.sqlite.specs.Held.{state}
use Rattle.dr_ledger.specs.declared.item.Progress.TheVariants.{Held}
use Rattle.dr_store_calls.specs.Calling.{advanced}
use Rattle.dr_store_calls.proofs.Calls.{asked_as}
use Rattle.dr_store_calls.proofs.dropping.drop_found.Goals as goal

pub returns-in-Some-Held-clause-called : goal.returns-in-Some-Held-clause-called
returns-in-Some-Held-clause-called g c part =
    let there : c.args.found ≡ Some (Held c.in-Some-Held.why) = search rules in
    asked_as c.args.n (advanced c.drop_row.result c.args.n) part c.drop_row.result
    (state g.S.Store c.args.conn.now) (state g.S.Store c.drop_row.new.conn) _ _ _ _
    (λ past base l found. sym found ∙ there) (c.drop_row.ensures.called part)
