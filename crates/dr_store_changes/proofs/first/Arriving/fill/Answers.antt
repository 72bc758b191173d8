use Rattle.sqlite.specs.Held.{state}
use Rattle.sqlite.specs.Tree.{Trees}
use Rattle.dr_store_writes.specs.Effects.{GoesOn}
use Rattle.dr_store_changes.specs.Bringing.{AsksToTake, KeepsIf, TakesInItem, Then}
use Rattle.dr_store_changes.specs.Changes.{AddsRows, HasRows, NotesArrival, Renews}
use Rattle.dr_store_changes.proofs.FirstOnes.{rows_untouched}
use Rattle.dr_store_changes.proofs.Movements.{goes_over}
use Rattle.dr_store_changes.proofs.Steps.{as_done, one_then}
use Rattle.dr_store_changes.proofs.first.Arriving.fill.Goals as goal

pub returns-clause-step : goal.returns-clause-step
returns-clause-step g c =
    let it = c.args.self.now in
    let uid = it.item.now.uid in
    let again = it.again.now in
    let old = state g.S.Store c.args.tx.now.conn.now in
    let mid = state g.S.Store c.take_from.new.tx.conn.now in
    let new = state g.S.Store c.queue.new.tx.conn.now in
    let Taken : Trees → Trees → Type 0 = Then (TakesInItem it.taking it.item.now it.body.now) (NotesArrival (it.caller.now, uid)) in
    let Queued : Trees → Trees → Type 0 = Then (Then (Renews uid again) (AddsRows uid it.dests.now)) (KeepsIf uid it.keeps) in
    one_then old mid new c.in_ok-take_from.field-0 _ (AsksToTake it.taking uid old.now.trees × HasRows uid again old.now.trees) (GoesOn old mid × Taken old.now.trees mid.now.trees) (HasRows uid again mid.now.trees)
    (GoesOn mid new × Queued mid.now.trees new.now.trees) (GoesOn old new × Then Taken Queued old.now.trees new.now.trees)
    (as_done old mid _ c.in_ok-take_from.field-0 _ _ (λ m asks. m asks.0) c.in_ok-take_from.ensures.step) (as_done mid new _ tt _ _ (λ m. m) c.in_ok-queue.ensures.step)
    (λ asks m. (m.0, rows_untouched it.taking it.caller.now it.item.now it.body.now again old.now.trees mid.now.trees m.1 asks.1)) (λ asks m n. (goes_over old mid new m.0 n.0, (mid.now.trees, m.1, n.1)))
