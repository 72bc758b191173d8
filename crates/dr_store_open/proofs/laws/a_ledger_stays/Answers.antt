use Rattle.sqlite.specs.Held.{state}
use Rattle.dr_store_open.proofs.Left.{ledger_is_neither, nothing_made}
use Rattle.dr_store_open.proofs.laws.a_ledger_stays.Goals as goal

pub returns-clause-crash : goal.returns-clause-crash
returns-clause-crash g c part left is =
    let neither = ledger_is_neither (state g.S.Store c.args.before.now).now.schema is in
    nothing_made part (state g.S.Store c.args.before.now) (state g.S.Store c.args.after.now) left.crash neither.0 neither.1

pub returns-clause-stays : goal.returns-clause-stays
returns-clause-stays g c part left is is_open =
    let neither = ledger_is_neither (state g.S.Store c.args.before.now).now.schema is in
    left.stays neither.0 neither.1 is_open
