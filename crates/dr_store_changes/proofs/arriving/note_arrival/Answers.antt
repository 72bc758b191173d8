use Rattle.sqlite.specs.Held.{state}
use Rattle.dr_store_changes.proofs.Sets.{noted}
use Rattle.dr_store_changes.proofs.Steps.{as_done}
use Rattle.dr_store_changes.proofs.arriving.note_arrival.Goals as goal

pub returns-clause-step : goal.returns-clause-step
returns-clause-step g c =
    as_done (state g.S.Store c.args.tx.now.conn.now) (state g.S.Store c.add_arrival.new.tx.conn.now) _ tt _ _ (λ added. noted (c.args.caller.now, c.args.uid.now) (state g.S.Store c.args.tx.now.conn.now) (state g.S.Store c.add_arrival.new.tx.conn.now) added) c.in_ok-add_arrival.ensures.step
