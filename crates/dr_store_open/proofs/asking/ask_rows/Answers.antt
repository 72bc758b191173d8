use Rattle.std.proofs.Common.{[]}
use Rattle.sqlite.specs.Held.{state}
use Rattle.dr_store_open.proofs.Answered.{answered, if_ok_map}
use Rattle.dr_store_open.proofs.asking.ask_rows.Goals as goal

pub returns-clause-answer : goal.returns-clause-answer
returns-clause-answer g c clean asks =
    if_ok_map c.ask_within.result (λ rows. answered c.args.sql.now (state g.S.Store c.args.tx.now.conn.now) (state g.S.Store c.ask_within.new.tx.conn.now) rows.items asks) (c.ask_within.ensures.shown clean)
