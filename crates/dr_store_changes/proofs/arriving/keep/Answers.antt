use Rattle.sqlite.specs.Held.{state}
use Rattle.dr_store_changes.proofs.Sets.{keeps_one}
use Rattle.dr_store_changes.proofs.Steps.{as_done}
use Rattle.dr_store_changes.proofs.arriving.keep.Goals as goal

pub returns-clause-step : goal.returns-clause-step
returns-clause-step g c =
    as_done (state g.S.Store c.args.tx.now.conn.now) (state g.S.Store c.add_kept.new.tx.conn.now) _ tt _ _ (λ added. keeps_one c.args.uid.now (state g.S.Store c.args.tx.now.conn.now) (state g.S.Store c.add_kept.new.tx.conn.now) added) c.in_ok-add_kept.ensures.step
