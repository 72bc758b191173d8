use Rattle.std.proofs.Common.{true, false, refl, ◌∙◌}
use Rattle.dr_ulstate.specs.declared.table.Event.TheVariants.{ReleaseRequest}
use Rattle.dr_session.specs.declared.ends.Core.{Core}
use Rattle.dr_session.specs.Reactions.{is_idle}
use Rattle.dr_session.specs.declared.ends.Input.TheVariants.{ReleaseAsked}
use Rattle.dr_session.specs.declared.ends.Told.TheVariants.{Plain}
use Rattle.dr_session.proofs.Acting.{done_moved, broke_moved, done_unmoved, done_unmet, tested, release_is}
use Rattle.dr_session.proofs.react.turning.meet_release.Goals as goal

pub returns-then-not-is_idle_requestor-clause-done : goal.returns-then-not-is_idle_requestor-clause-done
returns-then-not-is_idle_requestor-clause-done g c =
    done_unmet g.P.DeskPort.step c.args.at (Plain ReleaseAsked) c.args.core (release_is c.args.at c.args.core false (tested (λ (k : Core). is_idle k) c.args.core c.as_core.result.now c.is_idle_requestor.result false c.as_core.ensures c.is_idle_requestor.ensures c.if-not-is_idle_requestor.true)) c.quiet.result c.args.port.now c.quiet.ensures

pub returns-in-Ok-clause-done : goal.returns-in-Ok-clause-done
returns-in-Ok-clause-done g c =
    done_moved g.P.DeskPort.step c.args.at (Plain ReleaseAsked) c.args.core c.in-Ok.core ReleaseRequest true c.step_release.result c.in-Ok.action (release_is c.args.at c.args.core true (tested (λ (k : Core). is_idle k) c.args.core c.as_core.result.now c.is_idle_requestor.result true c.as_core.ensures c.is_idle_requestor.ensures c.if-not-is_idle_requestor.false)) refl c.step_release.ensures c.in-Ok.is
    c.act.result c.args.port.now c.act.new.port c.act.ensures.done

pub returns-in-Ok-clause-broke : goal.returns-in-Ok-clause-broke
returns-in-Ok-clause-broke g c =
    broke_moved g.P.DeskPort.step c.args.at (Plain ReleaseAsked) c.args.core c.in-Ok.core ReleaseRequest true c.step_release.result c.in-Ok.action (release_is c.args.at c.args.core true (tested (λ (k : Core). is_idle k) c.args.core c.as_core.result.now c.is_idle_requestor.result true c.as_core.ensures c.is_idle_requestor.ensures c.if-not-is_idle_requestor.false)) refl c.step_release.ensures c.in-Ok.is
    c.act.result c.args.port.now c.act.new.port c.act.ensures.broke

pub returns-in-Err-clause-done : goal.returns-in-Err-clause-done
returns-in-Err-clause-done g c =
    done_unmoved g.P.DeskPort.step c.args.at (Plain ReleaseAsked) c.args.core c.in-Err.core ReleaseRequest true c.step_release.result (release_is c.args.at c.args.core true (tested (λ (k : Core). is_idle k) c.args.core c.as_core.result.now c.is_idle_requestor.result true c.as_core.ensures c.is_idle_requestor.ensures c.if-not-is_idle_requestor.false)) refl c.step_release.ensures c.in-Err.is
    c.quiet-in-Err.result c.args.port.now c.quiet-in-Err.ensures
