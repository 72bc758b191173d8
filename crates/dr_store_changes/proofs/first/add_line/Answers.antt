use Rattle.sqlite.specs.Held.{state}
use Rattle.dr_store_changes.proofs.FirstOnes.{line_added}
use Rattle.dr_store_changes.proofs.Steps.{as_done}
use Rattle.dr_store_changes.proofs.first.add_line.Goals as goal

pub returns-clause-step : goal.returns-clause-step
returns-clause-step g c =
    let old = state g.S.Store c.args.tx.now.conn.now in
    let new = state g.S.Store c.add_arrived.new.tx.conn.now in
    as_done old new _ tt _ _ (λ adds any. line_added c.args.n c.args.moment c.args.caller.now c.args.item.now old new adds) c.in_ok-add_arrived.ensures.step
