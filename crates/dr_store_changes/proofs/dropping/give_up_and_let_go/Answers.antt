use Rattle.std.proofs.Common.{true}
use Rattle.sqlite.specs.Held.{state}
use Rattle.dr_store_writes.specs.Effects.{GoesOn}
use Rattle.dr_store_changes.specs.Changes.{AsksForRow, GivenUp, GivesUp, HasBoth, LetsGo}
use Rattle.dr_store_changes.specs.Writing.{IsMade}
use Rattle.dr_store_changes.proofs.Dropped.{both_still, given_up_going}
use Rattle.dr_store_changes.proofs.Steps.{as_done, one_then}
use Rattle.dr_store_changes.proofs.dropping.give_up_and_let_go.Goals as goal

pub returns-clause-step : goal.returns-clause-step
returns-clause-step g c =
    let n = c.args.n in
    let uid = c.args.uid.now in
    let dest = c.args.dest.now in
    let now = c.args.now in
    let old = state g.S.Store c.args.tx.now.conn.now in
    let mid = state g.S.Store c.give_up.new.tx.conn.now in
    let new = state g.S.Store c.let_go.new.tx.conn.now in
    one_then old mid new c.in_ok-give_up.field-0 _ (AsksForRow (uid, dest) old.now.trees)
    (GivenUp uid dest now n old mid) (HasBoth uid mid.now.trees)
    (GoesOn mid new × LetsGo uid mid.now.trees new.now.trees)
    (IsMade n (GivesUp uid dest now n true) old new)
    (as_done old mid _ c.in_ok-give_up.field-0 _ _
    (λ gives asks. gives asks.0) c.in_ok-give_up.ensures.step)
    (as_done mid new _ tt _ _ (λ gone. gone) c.in_ok-let_go.ensures.step)
    (λ asks m. both_still uid dest now n old mid m asks.1)
    (λ asks m gone. given_up_going uid dest now n old mid m new gone)
