use Rattle.sqlite.specs.Held.{state}
use Rattle.dr_store_writes.specs.Effects.{DropsAll, GoesOn, HasSite, SetsPlan}
use Rattle.dr_store_changes.specs.Sealing.{CanBeSealed, SealsLines}
use Rattle.dr_store_changes.proofs.Sealings.{BothLeft, both_left, lines_sealed, sealed_still}
use Rattle.dr_store_changes.proofs.Steps.{as_done, one_then}
use Rattle.dr_store_changes.proofs.sealing.take_lines_out.Goals as goal

pub returns-clause-step : goal.returns-clause-step
returns-clause-step g c =
    let plan = c.args.plan.now in
    let old = state g.S.Store c.args.tx.now.conn.now in
    let one = state g.S.Store c.drop_targets.new.tx.conn.now in
    let two = state g.S.Store c.drop_lines.new.tx.conn.now in
    let new = state g.S.Store c.set_plan.new.tx.conn.now in
    let Can = CanBeSealed old.now.trees in
    one_then old two new c.in_ok-drop_lines.field-0 _ Can (BothLeft old two) (HasSite two.now.trees) (SetsPlan plan two new) (GoesOn old new × SealsLines plan old.now.trees new.now.trees)
    (one_then old one two c.in_ok-drop_targets.field-0 _ Can (DropsAll 12 old one) (CanBeSealed one.now.trees) (DropsAll 11 one two) (BothLeft old two)
    (as_done old one _ c.in_ok-drop_targets.field-0 _ _ (λ d can. d) c.in_ok-drop_targets.ensures.step) (as_done one two _ c.in_ok-drop_lines.field-0 _ _ (λ d can. d) c.in_ok-drop_lines.ensures.step)
    (λ can d. sealed_still old one can d) (λ can d e. both_left old one two can d e))
    (as_done two new _ tt _ _ (λ m. m) c.in_ok-set_plan.ensures.step)
    (λ can l. (l.goes_on, l.site)) (λ can l p. lines_sealed plan old two new l p)
