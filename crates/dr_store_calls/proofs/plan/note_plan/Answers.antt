use Rattle.sqlite.specs.Held.{state}
use Rattle.dr_store_writes.specs.Effects.{AddsRow, GoesOn, HasSite, SetsPlan, adopted_line}
use Rattle.dr_store_changes.proofs.Steps.{as_done, one_then}
use Rattle.dr_store_calls.specs.Adoptions.{NotesPlan}
use Rattle.dr_store_calls.proofs.Changes.{noted}
use Rattle.dr_store_calls.proofs.plan.note_plan.Goals as goal

pub returns-clause-step : goal.returns-clause-step
returns-clause-step g c =
    let n = c.args.n in
    let plan = c.args.plan.now in
    let old = state g.S.Store c.args.tx.now.conn.now in
    let mid = state g.S.Store c.set_plan.new.tx.conn.now in
    let new = state g.S.Store c.add_adopted.new.tx.conn.now in
    one_then old mid new c.in_ok-set_plan.field-0 _ (HasSite old.now.trees) (SetsPlan plan old mid) (Unit {0}) (AddsRow 11 (adopted_line n c.args.moment) mid new) (GoesOn old new × NotesPlan plan n c.args.moment old.now.trees new.now.trees)
    c.in_ok-set_plan.ensures.step (as_done mid new _ tt _ _ (λ adds any. adds) c.in_ok-add_adopted.ensures.step)
    (λ owned sets. (sets.goes_on, tt)) (λ owned s a. noted plan n c.args.moment old mid new s a)
