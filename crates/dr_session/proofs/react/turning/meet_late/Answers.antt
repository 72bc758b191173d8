use Rattle.std.proofs.Common.{true, false, refl, ◌∙◌}
use Rattle.dr_ulstate.specs.Phases.{next_expired}
use Rattle.dr_ulstate.specs.declared.table.Event.TheVariants.{ArtimExpired}
use Rattle.dr_session.specs.declared.ends.Core.{Core}
use Rattle.dr_session.specs.declared.ends.Input.TheVariants.{Late}
use Rattle.dr_session.specs.Reactions.{is_impatient}
use Rattle.dr_session.specs.declared.ends.Told.TheVariants.{Plain}
use Rattle.dr_session.proofs.Acting.{done_moved, broke_moved, done_unmoved, done_unmet, expires, late_stepped, tested, waits_long, waits_on}
use Rattle.dr_session.proofs.react.turning.meet_late.Goals as goal

pub returns-in-Ok-clause-done : goal.returns-in-Ok-clause-done
returns-in-Ok-clause-done g c =
    done_moved g.P.DeskPort.step c.args.at (Plain Late) c.args.core c.in-Ok.core ArtimExpired true c.step_late.result c.in-Ok.action (expires c.args.at c.args.core (tested (λ (k : Core). next_expired k.phase c.args.at.now) c.args.core c.as_core.result.now c.artim_has_expired.result true c.as_core.ensures c.artim_has_expired.ensures c.if-artim_has_expired.true)) refl (c.step_late.ensures ∙ late_stepped c.args.at c.args.core (tested (λ (k : Core). next_expired k.phase c.args.at.now) c.args.core c.as_core.result.now c.artim_has_expired.result true c.as_core.ensures c.artim_has_expired.ensures c.if-artim_has_expired.true)) c.in-Ok.is
    c.act.result c.args.port.now c.act.new.port c.act.ensures.done

pub returns-in-Ok-clause-broke : goal.returns-in-Ok-clause-broke
returns-in-Ok-clause-broke g c =
    broke_moved g.P.DeskPort.step c.args.at (Plain Late) c.args.core c.in-Ok.core ArtimExpired true c.step_late.result c.in-Ok.action (expires c.args.at c.args.core (tested (λ (k : Core). next_expired k.phase c.args.at.now) c.args.core c.as_core.result.now c.artim_has_expired.result true c.as_core.ensures c.artim_has_expired.ensures c.if-artim_has_expired.true)) refl (c.step_late.ensures ∙ late_stepped c.args.at c.args.core (tested (λ (k : Core). next_expired k.phase c.args.at.now) c.args.core c.as_core.result.now c.artim_has_expired.result true c.as_core.ensures c.artim_has_expired.ensures c.if-artim_has_expired.true)) c.in-Ok.is
    c.act.result c.args.port.now c.act.new.port c.act.ensures.broke

pub returns-in-Err-clause-done : goal.returns-in-Err-clause-done
returns-in-Err-clause-done g c =
    done_unmoved g.P.DeskPort.step c.args.at (Plain Late) c.args.core c.in-Err.core ArtimExpired true c.step_late.result (expires c.args.at c.args.core (tested (λ (k : Core). next_expired k.phase c.args.at.now) c.args.core c.as_core.result.now c.artim_has_expired.result true c.as_core.ensures c.artim_has_expired.ensures c.if-artim_has_expired.true)) refl (c.step_late.ensures ∙ late_stepped c.args.at c.args.core (tested (λ (k : Core). next_expired k.phase c.args.at.now) c.args.core c.as_core.result.now c.artim_has_expired.result true c.as_core.ensures c.artim_has_expired.ensures c.if-artim_has_expired.true)) c.in-Err.is
    c.quiet.result c.args.port.now c.quiet.ensures

pub meet_abort-requires-clause-event : goal.meet_abort-requires-clause-event
meet_abort-requires-clause-event g c = waits_long c.args.at c.args.core (tested (λ (k : Core). next_expired k.phase c.args.at.now) c.args.core c.as_core.result.now c.artim_has_expired.result false c.as_core.ensures c.artim_has_expired.ensures c.if-artim_has_expired.false) (tested (λ (k : Core). is_impatient k c.args.at.now) c.args.core c.as_core-2.result.now c.is_impatient.result true c.as_core-2.ensures c.is_impatient.ensures c.if-is_impatient.true)

pub returns-then-is_impatient-clause-done : goal.returns-then-is_impatient-clause-done
returns-then-is_impatient-clause-done g c = c.meet_abort.ensures.done

pub returns-then-is_impatient-clause-broke : goal.returns-then-is_impatient-clause-broke
returns-then-is_impatient-clause-broke g c = c.meet_abort.ensures.broke

pub returns-clause-done : goal.returns-clause-done
returns-clause-done g c =
    done_unmet g.P.DeskPort.step c.args.at (Plain Late) c.args.core (waits_on c.args.at c.args.core (tested (λ (k : Core). next_expired k.phase c.args.at.now) c.args.core c.as_core.result.now c.artim_has_expired.result false c.as_core.ensures c.artim_has_expired.ensures c.if-artim_has_expired.false) (tested (λ (k : Core). is_impatient k c.args.at.now) c.args.core c.as_core-2.result.now c.is_impatient.result false c.as_core-2.ensures c.is_impatient.ensures c.if-is_impatient.false)) c.quiet-2.result c.args.port.now c.quiet-2.ensures
