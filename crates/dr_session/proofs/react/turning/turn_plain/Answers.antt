use Rattle.std.proofs.Common.{◌≡◌, ap}
use Rattle.dr_session.specs.declared.ends.Core.{Core}
use Rattle.dr_session.specs.declared.ends.Input.{Input}
use Rattle.dr_session.specs.declared.ends.Input.TheVariants.{Request, Acceptance, Rejection, Value, NoValue, ReleaseRq, ReleaseRp, Abort, Unknown, Invalid, Ended, Late, AbortAsked, ReleaseAsked, PushAsked}
use Rattle.dr_session.specs.declared.ends.Moment.{Moment}
use Rattle.dr_session.specs.declared.ends.Told.TheVariants.{Plain}
use Rattle.dr_session.specs.Reactions.{turn}
use Rattle.dr_session.proofs.Acting.{done_by, broke_by}
use Rattle.dr_session.proofs.Wanting.{off_as, off_by}
use Rattle.dr_session.proofs.react.turning.turn_plain.Goals as goal

-- the input, as its arm has it
is_told : (at : Moment) (core : Core) (a b : Input) → a ≡ b → turn at core (Plain a) ≡ turn at core (Plain b)
is_told at core a b same = ap (λ (x : Input). turn at core (Plain x)) same

pub returns-in-Request-clause-done : goal.returns-in-Request-clause-done
returns-in-Request-clause-done g c =
    done_by g.P.DeskPort.step (turn c.args.at c.args.core (Plain c.args.input)) (turn c.args.at c.args.core (Plain (Request c.in-Request.rq))) c.meet_request.result c.args.port.now c.meet_request.new.port
    (is_told c.args.at c.args.core c.args.input (Request c.in-Request.rq) c.in-Request.is) c.meet_request.ensures.done

pub returns-in-Request-clause-broke : goal.returns-in-Request-clause-broke
returns-in-Request-clause-broke g c =
    off_as g.P.DeskPort.step c.args.at c.args.core (Plain c.args.input) (Plain (Request c.in-Request.rq)) c.meet_request.result c.args.port.now c.meet_request.new.port
    (ap (λ (i : Input). Plain i) c.in-Request.is) c.meet_request.ensures.broke

pub returns-in-Late-clause-done : goal.returns-in-Late-clause-done
returns-in-Late-clause-done g c =
    done_by g.P.DeskPort.step (turn c.args.at c.args.core (Plain c.args.input)) (turn c.args.at c.args.core (Plain Late)) c.meet_late.result c.args.port.now c.meet_late.new.port
    (is_told c.args.at c.args.core c.args.input Late c.in-Late.is) c.meet_late.ensures.done

pub returns-in-Late-clause-broke : goal.returns-in-Late-clause-broke
returns-in-Late-clause-broke g c =
    off_by g.P.DeskPort.step c.args.at c.args.core (Plain c.args.input) c.meet_late.result c.args.port.now c.meet_late.new.port
    (broke_by g.P.DeskPort.step (turn c.args.at c.args.core (Plain c.args.input)) (turn c.args.at c.args.core (Plain Late)) c.meet_late.result c.args.port.now c.meet_late.new.port
    (is_told c.args.at c.args.core c.args.input Late c.in-Late.is) c.meet_late.ensures.broke)

pub returns-in-AbortAsked-clause-done : goal.returns-in-AbortAsked-clause-done
returns-in-AbortAsked-clause-done g c =
    done_by g.P.DeskPort.step (turn c.args.at c.args.core (Plain c.args.input)) (turn c.args.at c.args.core (Plain AbortAsked)) c.meet_abort.result c.args.port.now c.meet_abort.new.port
    (is_told c.args.at c.args.core c.args.input AbortAsked c.in-AbortAsked.is) c.meet_abort.ensures.done

pub returns-in-AbortAsked-clause-broke : goal.returns-in-AbortAsked-clause-broke
returns-in-AbortAsked-clause-broke g c =
    off_by g.P.DeskPort.step c.args.at c.args.core (Plain c.args.input) c.meet_abort.result c.args.port.now c.meet_abort.new.port
    (broke_by g.P.DeskPort.step (turn c.args.at c.args.core (Plain c.args.input)) (turn c.args.at c.args.core (Plain AbortAsked)) c.meet_abort.result c.args.port.now c.meet_abort.new.port
    (is_told c.args.at c.args.core c.args.input AbortAsked c.in-AbortAsked.is) c.meet_abort.ensures.broke)

pub returns-in-ReleaseAsked-clause-done : goal.returns-in-ReleaseAsked-clause-done
returns-in-ReleaseAsked-clause-done g c =
    done_by g.P.DeskPort.step (turn c.args.at c.args.core (Plain c.args.input)) (turn c.args.at c.args.core (Plain ReleaseAsked)) c.meet_release.result c.args.port.now c.meet_release.new.port
    (is_told c.args.at c.args.core c.args.input ReleaseAsked c.in-ReleaseAsked.is) c.meet_release.ensures.done

pub returns-in-ReleaseAsked-clause-broke : goal.returns-in-ReleaseAsked-clause-broke
returns-in-ReleaseAsked-clause-broke g c =
    off_by g.P.DeskPort.step c.args.at c.args.core (Plain c.args.input) c.meet_release.result c.args.port.now c.meet_release.new.port
    (broke_by g.P.DeskPort.step (turn c.args.at c.args.core (Plain c.args.input)) (turn c.args.at c.args.core (Plain ReleaseAsked)) c.meet_release.result c.args.port.now c.meet_release.new.port
    (is_told c.args.at c.args.core c.args.input ReleaseAsked c.in-ReleaseAsked.is) c.meet_release.ensures.broke)

pub returns-in-PushAsked-clause-done : goal.returns-in-PushAsked-clause-done
returns-in-PushAsked-clause-done g c =
    done_by g.P.DeskPort.step (turn c.args.at c.args.core (Plain c.args.input)) (turn c.args.at c.args.core (Plain PushAsked)) c.meet_push.result c.args.port.now c.meet_push.new.port
    (is_told c.args.at c.args.core c.args.input PushAsked c.in-PushAsked.is) c.meet_push.ensures.done

pub returns-in-PushAsked-clause-broke : goal.returns-in-PushAsked-clause-broke
returns-in-PushAsked-clause-broke g c =
    off_by g.P.DeskPort.step c.args.at c.args.core (Plain c.args.input) c.meet_push.result c.args.port.now c.meet_push.new.port
    (broke_by g.P.DeskPort.step (turn c.args.at c.args.core (Plain c.args.input)) (turn c.args.at c.args.core (Plain PushAsked)) c.meet_push.result c.args.port.now c.meet_push.new.port
    (is_told c.args.at c.args.core c.args.input PushAsked c.in-PushAsked.is) c.meet_push.ensures.broke)

pub returns-in-Acceptance-clause-done : goal.returns-in-Acceptance-clause-done
returns-in-Acceptance-clause-done g c =
    done_by g.P.DeskPort.step (turn c.args.at c.args.core (Plain c.args.input)) (turn c.args.at c.args.core (Plain (Acceptance c.in-Acceptance.ac))) c.turn_heard.result c.args.port.now c.turn_heard.new.port
    (is_told c.args.at c.args.core c.args.input (Acceptance c.in-Acceptance.ac) c.in-Acceptance.is) c.turn_heard.ensures.done

pub returns-in-Acceptance-clause-broke : goal.returns-in-Acceptance-clause-broke
returns-in-Acceptance-clause-broke g c =
    off_by g.P.DeskPort.step c.args.at c.args.core (Plain c.args.input) c.turn_heard.result c.args.port.now c.turn_heard.new.port
    (broke_by g.P.DeskPort.step (turn c.args.at c.args.core (Plain c.args.input)) (turn c.args.at c.args.core (Plain (Acceptance c.in-Acceptance.ac))) c.turn_heard.result c.args.port.now c.turn_heard.new.port
    (is_told c.args.at c.args.core c.args.input (Acceptance c.in-Acceptance.ac) c.in-Acceptance.is) c.turn_heard.ensures.broke)

pub returns-in-Rejection-clause-done : goal.returns-in-Rejection-clause-done
returns-in-Rejection-clause-done g c =
    done_by g.P.DeskPort.step (turn c.args.at c.args.core (Plain c.args.input)) (turn c.args.at c.args.core (Plain (Rejection c.in-Rejection.rejection))) c.turn_heard-in-Rejection.result c.args.port.now c.turn_heard-in-Rejection.new.port
    (is_told c.args.at c.args.core c.args.input (Rejection c.in-Rejection.rejection) c.in-Rejection.is) c.turn_heard-in-Rejection.ensures.done

pub returns-in-Rejection-clause-broke : goal.returns-in-Rejection-clause-broke
returns-in-Rejection-clause-broke g c =
    off_by g.P.DeskPort.step c.args.at c.args.core (Plain c.args.input) c.turn_heard-in-Rejection.result c.args.port.now c.turn_heard-in-Rejection.new.port
    (broke_by g.P.DeskPort.step (turn c.args.at c.args.core (Plain c.args.input)) (turn c.args.at c.args.core (Plain (Rejection c.in-Rejection.rejection))) c.turn_heard-in-Rejection.result c.args.port.now c.turn_heard-in-Rejection.new.port
    (is_told c.args.at c.args.core c.args.input (Rejection c.in-Rejection.rejection) c.in-Rejection.is) c.turn_heard-in-Rejection.ensures.broke)

pub returns-in-Value-clause-done : goal.returns-in-Value-clause-done
returns-in-Value-clause-done g c =
    done_by g.P.DeskPort.step (turn c.args.at c.args.core (Plain c.args.input)) (turn c.args.at c.args.core (Plain (Value c.in-Value.pdv))) c.turn_heard-in-Value.result c.args.port.now c.turn_heard-in-Value.new.port
    (is_told c.args.at c.args.core c.args.input (Value c.in-Value.pdv) c.in-Value.is) c.turn_heard-in-Value.ensures.done

pub returns-in-Value-clause-broke : goal.returns-in-Value-clause-broke
returns-in-Value-clause-broke g c =
    off_by g.P.DeskPort.step c.args.at c.args.core (Plain c.args.input) c.turn_heard-in-Value.result c.args.port.now c.turn_heard-in-Value.new.port
    (broke_by g.P.DeskPort.step (turn c.args.at c.args.core (Plain c.args.input)) (turn c.args.at c.args.core (Plain (Value c.in-Value.pdv))) c.turn_heard-in-Value.result c.args.port.now c.turn_heard-in-Value.new.port
    (is_told c.args.at c.args.core c.args.input (Value c.in-Value.pdv) c.in-Value.is) c.turn_heard-in-Value.ensures.broke)

pub returns-in-NoValue-clause-done : goal.returns-in-NoValue-clause-done
returns-in-NoValue-clause-done g c =
    done_by g.P.DeskPort.step (turn c.args.at c.args.core (Plain c.args.input)) (turn c.args.at c.args.core (Plain NoValue)) c.turn_heard-in-NoValue.result c.args.port.now c.turn_heard-in-NoValue.new.port
    (is_told c.args.at c.args.core c.args.input NoValue c.in-NoValue.is) c.turn_heard-in-NoValue.ensures.done

pub returns-in-NoValue-clause-broke : goal.returns-in-NoValue-clause-broke
returns-in-NoValue-clause-broke g c =
    off_by g.P.DeskPort.step c.args.at c.args.core (Plain c.args.input) c.turn_heard-in-NoValue.result c.args.port.now c.turn_heard-in-NoValue.new.port
    (broke_by g.P.DeskPort.step (turn c.args.at c.args.core (Plain c.args.input)) (turn c.args.at c.args.core (Plain NoValue)) c.turn_heard-in-NoValue.result c.args.port.now c.turn_heard-in-NoValue.new.port
    (is_told c.args.at c.args.core c.args.input NoValue c.in-NoValue.is) c.turn_heard-in-NoValue.ensures.broke)

pub returns-in-ReleaseRq-clause-done : goal.returns-in-ReleaseRq-clause-done
returns-in-ReleaseRq-clause-done g c =
    done_by g.P.DeskPort.step (turn c.args.at c.args.core (Plain c.args.input)) (turn c.args.at c.args.core (Plain ReleaseRq)) c.turn_heard-in-ReleaseRq.result c.args.port.now c.turn_heard-in-ReleaseRq.new.port
    (is_told c.args.at c.args.core c.args.input ReleaseRq c.in-ReleaseRq.is) c.turn_heard-in-ReleaseRq.ensures.done

pub returns-in-ReleaseRq-clause-broke : goal.returns-in-ReleaseRq-clause-broke
returns-in-ReleaseRq-clause-broke g c =
    off_by g.P.DeskPort.step c.args.at c.args.core (Plain c.args.input) c.turn_heard-in-ReleaseRq.result c.args.port.now c.turn_heard-in-ReleaseRq.new.port
    (broke_by g.P.DeskPort.step (turn c.args.at c.args.core (Plain c.args.input)) (turn c.args.at c.args.core (Plain ReleaseRq)) c.turn_heard-in-ReleaseRq.result c.args.port.now c.turn_heard-in-ReleaseRq.new.port
    (is_told c.args.at c.args.core c.args.input ReleaseRq c.in-ReleaseRq.is) c.turn_heard-in-ReleaseRq.ensures.broke)

pub returns-in-ReleaseRp-clause-done : goal.returns-in-ReleaseRp-clause-done
returns-in-ReleaseRp-clause-done g c =
    done_by g.P.DeskPort.step (turn c.args.at c.args.core (Plain c.args.input)) (turn c.args.at c.args.core (Plain ReleaseRp)) c.turn_heard-in-ReleaseRp.result c.args.port.now c.turn_heard-in-ReleaseRp.new.port
    (is_told c.args.at c.args.core c.args.input ReleaseRp c.in-ReleaseRp.is) c.turn_heard-in-ReleaseRp.ensures.done

pub returns-in-ReleaseRp-clause-broke : goal.returns-in-ReleaseRp-clause-broke
returns-in-ReleaseRp-clause-broke g c =
    off_by g.P.DeskPort.step c.args.at c.args.core (Plain c.args.input) c.turn_heard-in-ReleaseRp.result c.args.port.now c.turn_heard-in-ReleaseRp.new.port
    (broke_by g.P.DeskPort.step (turn c.args.at c.args.core (Plain c.args.input)) (turn c.args.at c.args.core (Plain ReleaseRp)) c.turn_heard-in-ReleaseRp.result c.args.port.now c.turn_heard-in-ReleaseRp.new.port
    (is_told c.args.at c.args.core c.args.input ReleaseRp c.in-ReleaseRp.is) c.turn_heard-in-ReleaseRp.ensures.broke)

pub returns-in-Abort-clause-done : goal.returns-in-Abort-clause-done
returns-in-Abort-clause-done g c =
    done_by g.P.DeskPort.step (turn c.args.at c.args.core (Plain c.args.input)) (turn c.args.at c.args.core (Plain (Abort c.in-Abort.abort))) c.turn_heard-in-Abort.result c.args.port.now c.turn_heard-in-Abort.new.port
    (is_told c.args.at c.args.core c.args.input (Abort c.in-Abort.abort) c.in-Abort.is) c.turn_heard-in-Abort.ensures.done

pub returns-in-Abort-clause-broke : goal.returns-in-Abort-clause-broke
returns-in-Abort-clause-broke g c =
    off_by g.P.DeskPort.step c.args.at c.args.core (Plain c.args.input) c.turn_heard-in-Abort.result c.args.port.now c.turn_heard-in-Abort.new.port
    (broke_by g.P.DeskPort.step (turn c.args.at c.args.core (Plain c.args.input)) (turn c.args.at c.args.core (Plain (Abort c.in-Abort.abort))) c.turn_heard-in-Abort.result c.args.port.now c.turn_heard-in-Abort.new.port
    (is_told c.args.at c.args.core c.args.input (Abort c.in-Abort.abort) c.in-Abort.is) c.turn_heard-in-Abort.ensures.broke)

pub returns-in-Unknown-clause-done : goal.returns-in-Unknown-clause-done
returns-in-Unknown-clause-done g c =
    done_by g.P.DeskPort.step (turn c.args.at c.args.core (Plain c.args.input)) (turn c.args.at c.args.core (Plain Unknown)) c.turn_heard-in-Unknown.result c.args.port.now c.turn_heard-in-Unknown.new.port
    (is_told c.args.at c.args.core c.args.input Unknown c.in-Unknown.is) c.turn_heard-in-Unknown.ensures.done

pub returns-in-Unknown-clause-broke : goal.returns-in-Unknown-clause-broke
returns-in-Unknown-clause-broke g c =
    off_by g.P.DeskPort.step c.args.at c.args.core (Plain c.args.input) c.turn_heard-in-Unknown.result c.args.port.now c.turn_heard-in-Unknown.new.port
    (broke_by g.P.DeskPort.step (turn c.args.at c.args.core (Plain c.args.input)) (turn c.args.at c.args.core (Plain Unknown)) c.turn_heard-in-Unknown.result c.args.port.now c.turn_heard-in-Unknown.new.port
    (is_told c.args.at c.args.core c.args.input Unknown c.in-Unknown.is) c.turn_heard-in-Unknown.ensures.broke)

pub returns-in-Invalid-clause-done : goal.returns-in-Invalid-clause-done
returns-in-Invalid-clause-done g c =
    done_by g.P.DeskPort.step (turn c.args.at c.args.core (Plain c.args.input)) (turn c.args.at c.args.core (Plain Invalid)) c.turn_heard-in-Invalid.result c.args.port.now c.turn_heard-in-Invalid.new.port
    (is_told c.args.at c.args.core c.args.input Invalid c.in-Invalid.is) c.turn_heard-in-Invalid.ensures.done

pub returns-in-Invalid-clause-broke : goal.returns-in-Invalid-clause-broke
returns-in-Invalid-clause-broke g c =
    off_by g.P.DeskPort.step c.args.at c.args.core (Plain c.args.input) c.turn_heard-in-Invalid.result c.args.port.now c.turn_heard-in-Invalid.new.port
    (broke_by g.P.DeskPort.step (turn c.args.at c.args.core (Plain c.args.input)) (turn c.args.at c.args.core (Plain Invalid)) c.turn_heard-in-Invalid.result c.args.port.now c.turn_heard-in-Invalid.new.port
    (is_told c.args.at c.args.core c.args.input Invalid c.in-Invalid.is) c.turn_heard-in-Invalid.ensures.broke)

pub returns-in-Ended-clause-done : goal.returns-in-Ended-clause-done
returns-in-Ended-clause-done g c =
    done_by g.P.DeskPort.step (turn c.args.at c.args.core (Plain c.args.input)) (turn c.args.at c.args.core (Plain Ended)) c.turn_heard-in-Ended.result c.args.port.now c.turn_heard-in-Ended.new.port
    (is_told c.args.at c.args.core c.args.input Ended c.in-Ended.is) c.turn_heard-in-Ended.ensures.done

pub returns-in-Ended-clause-broke : goal.returns-in-Ended-clause-broke
returns-in-Ended-clause-broke g c =
    off_by g.P.DeskPort.step c.args.at c.args.core (Plain c.args.input) c.turn_heard-in-Ended.result c.args.port.now c.turn_heard-in-Ended.new.port
    (broke_by g.P.DeskPort.step (turn c.args.at c.args.core (Plain c.args.input)) (turn c.args.at c.args.core (Plain Ended)) c.turn_heard-in-Ended.result c.args.port.now c.turn_heard-in-Ended.new.port
    (is_told c.args.at c.args.core c.args.input Ended c.in-Ended.is) c.turn_heard-in-Ended.ensures.broke)
