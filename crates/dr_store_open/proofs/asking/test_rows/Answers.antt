use Rattle.std.proofs.Common.{◌≡◌, ◌∙◌, subst, sym}
use Rattle.sqlite.specs.Held.{state}
use Rattle.dr_store_open.specs.Renewing.{IsAnswer}
use Rattle.dr_store_open.proofs.asking.test_rows.Goals as goal

pub returns-clause-answer : goal.returns-clause-answer
returns-clause-answer g c clean asks =
    let it = c.in_ok-there.ensures.answer clean asks in
    let there : c.as_slice.result.now ≡ c.in_ok-there.there.items = c.as_slice.ensures.value in
    (subst (IsAnswer c.args.sql.now (state g.S.Store c.args.tx.now.conn.now).now) (sym there ∙ c.are_rows.ensures c.if-not-are_rows.false) it.0, it.1)
