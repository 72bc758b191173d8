use Rattle.std.proofs.Common.{◌∙◌}
use Rattle.sqlite.specs.Held.{state}
use Rattle.dr_store_writes.specs.Effects.{GoesOn, HasPrint, SetsBody, SetsWhole}
use Rattle.dr_store_changes.specs.Changes.{HasBoth, TakesBack}
use Rattle.dr_store_changes.proofs.LettingGo.{print_there, takes_back}
use Rattle.dr_store_changes.proofs.Steps.{as_done, one_then}
use Rattle.dr_store_changes.proofs.bodies.take_back.Goals as goal

pub returns-clause-step : goal.returns-clause-step
returns-clause-step g c =
    let uid = c.args.uid.now in
    let body = c.args.body.now in
    let old = state g.S.Store c.args.tx.now.conn.now in
    let mid = state g.S.Store c.set_body.new.tx.conn.now in
    let new = state g.S.Store c.set_whole.new.tx.conn.now in
    one_then old mid new c.in_ok-set_body.field-0 _ (HasBoth uid old.now.trees) (SetsBody uid body old mid) (HasPrint uid mid.now.trees) (SetsWhole uid 1 mid new)
    (GoesOn old new × TakesBack uid body old.now.trees new.now.trees)
    (as_done old mid _ c.in_ok-set_body.field-0 _ _ (λ sets both. sets both.0) c.in_ok-set_body.ensures.step)
    (as_done mid new _ tt _ _ (λ sets. sets) c.in_ok-set_whole.ensures.step)
    (print_there uid body old mid)
    (λ both sets whole. (record { ledger = whole.goes_on.ledger; mode = whole.goes_on.mode; committed = whole.goes_on.committed ∙ sets.goes_on.committed; is_open = whole.goes_on.is_open }, takes_back uid body old mid new sets whole))
