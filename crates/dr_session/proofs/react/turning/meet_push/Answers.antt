use Rattle.std.proofs.Common.{true, false, refl, ◌∙◌}
use Rattle.dr_ulstate.specs.declared.table.Event.TheVariants.{DataRequest}
use Rattle.dr_session.specs.declared.ends.Core.{Core}
use Rattle.dr_session.specs.Reactions.{is_free}
use Rattle.dr_session.specs.declared.ends.Input.TheVariants.{PushAsked}
use Rattle.dr_session.specs.declared.ends.Told.TheVariants.{Plain}
use Rattle.dr_session.proofs.Acting.{done_moved, broke_moved, done_unmoved, done_unmet, tested, push_is, data_stepped}
use Rattle.dr_session.proofs.react.turning.meet_push.Goals as goal

pub returns-then-not-is_free-clause-done : goal.returns-then-not-is_free-clause-done
returns-then-not-is_free-clause-done g c =
    done_unmet g.P.DeskPort.step c.args.at (Plain PushAsked) c.args.core (push_is c.args.at c.args.core false (tested (λ (k : Core). is_free k) c.args.core c.as_core.result.now c.is_free.result false c.as_core.ensures c.is_free.ensures c.if-not-is_free.true)) c.quiet.result c.args.port.now c.quiet.ensures

pub returns-in-Ok-clause-done : goal.returns-in-Ok-clause-done
returns-in-Ok-clause-done g c =
    done_moved g.P.DeskPort.step c.args.at (Plain PushAsked) c.args.core c.in-Ok.core DataRequest true c.step_data.result c.in-Ok.action (push_is c.args.at c.args.core true (tested (λ (k : Core). is_free k) c.args.core c.as_core.result.now c.is_free.result true c.as_core.ensures c.is_free.ensures c.if-not-is_free.false)) refl (c.step_data.ensures ∙ data_stepped c.args.at c.args.core (tested (λ (k : Core). is_free k) c.args.core c.as_core.result.now c.is_free.result true c.as_core.ensures c.is_free.ensures c.if-not-is_free.false)) c.in-Ok.is
    c.act.result c.args.port.now c.act.new.port c.act.ensures.done

pub returns-in-Ok-clause-broke : goal.returns-in-Ok-clause-broke
returns-in-Ok-clause-broke g c =
    broke_moved g.P.DeskPort.step c.args.at (Plain PushAsked) c.args.core c.in-Ok.core DataRequest true c.step_data.result c.in-Ok.action (push_is c.args.at c.args.core true (tested (λ (k : Core). is_free k) c.args.core c.as_core.result.now c.is_free.result true c.as_core.ensures c.is_free.ensures c.if-not-is_free.false)) refl (c.step_data.ensures ∙ data_stepped c.args.at c.args.core (tested (λ (k : Core). is_free k) c.args.core c.as_core.result.now c.is_free.result true c.as_core.ensures c.is_free.ensures c.if-not-is_free.false)) c.in-Ok.is
    c.act.result c.args.port.now c.act.new.port c.act.ensures.broke

pub returns-in-Err-clause-done : goal.returns-in-Err-clause-done
returns-in-Err-clause-done g c =
    done_unmoved g.P.DeskPort.step c.args.at (Plain PushAsked) c.args.core c.in-Err.core DataRequest true c.step_data.result (push_is c.args.at c.args.core true (tested (λ (k : Core). is_free k) c.args.core c.as_core.result.now c.is_free.result true c.as_core.ensures c.is_free.ensures c.if-not-is_free.false)) refl (c.step_data.ensures ∙ data_stepped c.args.at c.args.core (tested (λ (k : Core). is_free k) c.args.core c.as_core.result.now c.is_free.result true c.as_core.ensures c.is_free.ensures c.if-not-is_free.false)) c.in-Err.is
    c.quiet-in-Err.result c.args.port.now c.quiet-in-Err.ensures
