use Rattle.std.proofs.Common.{◌≡◌, Result, Ok, Err, refl, subst, sym, arith, rules}
use Rattle.dr_session.specs.declared.ends.Ended.{Ended}
use Rattle.dr_session.specs.declared.sessions.SessionFault.{SessionFault}
use Rattle.dr_session.specs.Links.{StartsAs, EchoStep, EchoSession, EchoesAs, IsLinkFailure}
use Rattle.dr_session.specs.declared.wishes.Kind.TheVariants.{EchoOnce}
use Rattle.dr_session.proofs.Keeping.{handed_back, counts_back}
use Rattle.dr_session.proofs.Serving.{memory_counts, failure_same, no_failure}
use Rattle.dr_session.proofs.Asking.{echoes_unbegun, echo_session, echoes_stopped}
use Rattle.dr_session.proofs.sessions.echo.Goals as goal

pub returns-in_err-end-clause-echoes : goal.returns-in_err-end-clause-echoes
returns-in_err-end-clause-echoes g c =
    echoes_unbegun g.L.Link.hears g.L.Link.sends g.L.Link.closes (g.C.Clock.tells c.args.clock.now) c.args.caller.now c.args.called.now c.from_residual.result c.args.link.now c.from_residual.ensures.0 c.from_residual.ensures.1

pub returns-in_err-end-clause-counts : goal.returns-in_err-end-clause-counts
returns-in_err-end-clause-counts g c = memory_counts c.from_residual.result _ _ c.from_residual.ensures.0 c.from_residual.ensures.1 (omega arith)

pub returns-in_err-ended-clause-echoes : goal.returns-in_err-ended-clause-echoes
returns-in_err-ended-clause-echoes g c =
    let link : c.start.new.self.link.now ≡ c.link-1.given.0 = search rules in
    subst (λ l. EchoesAs g.L.Link.hears g.L.Link.sends g.L.Link.closes (g.C.Clock.tells c.args.clock.now) c.args.caller.now c.args.called.now c.from_residual-in_err-ended.result c.args.link.now l) link
    (echoes_stopped g.L.Link.hears g.L.Link.sends g.L.Link.closes (g.C.Clock.tells c.args.clock.now) c.args.caller.now c.args.called.now c.in_err-ended.field-0.0 c.from_residual-in_err-ended.result c.args.link.now c.start.new.self.link.now c.start.new.self.port.now
    c.from_residual-in_err-ended.ensures.0 c.from_residual-in_err-ended.ensures.1
    (echo_session g.L.Link.hears g.L.Link.sends g.L.Link.closes (g.C.Clock.tells c.args.clock.now) c.args.caller.now c.args.called.now (Err c.in_err-ended.field-0.0) c.in_ok-end.end c.in_ok-end.actions c.moment-at.result.now
    c.args.link.now c.start.new.self.link.now _ c.start.new.self.port.now c.in_ok-end.ensures.end c.in_ok-end.ensures.actions refl c.moment-at.ensures.is.0 c.in_err-ended.ensures.starts))

pub returns-in_err-ended-clause-counts : goal.returns-in_err-ended-clause-counts
returns-in_err-ended-clause-counts g c =
    let link : c.start.new.self.link.now ≡ c.link-1.given.0 = search rules in
    counts_back g.L.Link.failed (IsLinkFailure c.from_residual-in_err-ended.result) (g.L.Link.failed c.args.link.now) c.start.new.self.link.now c.link-1.given.0 link
    (failure_same Ended c.from_residual-in_err-ended.result c.in_err-ended.field-0.0 _ _ c.from_residual-in_err-ended.ensures.0 c.from_residual-in_err-ended.ensures.1 c.in_err-ended.ensures.counts)

pub start-requires-clause-is : goal.start-requires-clause-is
start-requires-clause-is g c = c.moment-at.ensures.is

pub returns-clause-echoes : goal.returns-clause-echoes
returns-clause-echoes g c =
    let link : c.start.new.self.link.now ≡ c.link-1.given.0 = search rules in
    let port : c.start.new.self.port.now ≡ c.desk-2-1.given.0 = search rules in
    handed_back (λ l t. EchoSession g.L.Link.hears g.L.Link.sends g.L.Link.closes (g.C.Clock.tells c.args.clock.now) c.args.caller.now c.args.called.now (Ok c.in_ok-ended.ended) c.args.link.now l t) c.start.new.self.link.now c.link-1.given.0 c.start.new.self.port.now c.desk-2-1.given.0 link port
    (echo_session g.L.Link.hears g.L.Link.sends g.L.Link.closes (g.C.Clock.tells c.args.clock.now) c.args.caller.now c.args.called.now (Ok c.in_ok-ended.ended) c.in_ok-end.end c.in_ok-end.actions c.moment-at.result.now
    c.args.link.now c.start.new.self.link.now _ c.start.new.self.port.now c.in_ok-end.ensures.end c.in_ok-end.ensures.actions refl c.moment-at.ensures.is.0 c.in_ok-ended.ensures.starts)

pub returns-clause-counts : goal.returns-clause-counts
returns-clause-counts g c =
    let link : c.start.new.self.link.now ≡ c.link-1.given.0 = search rules in
    let counts = counts_back g.L.Link.failed (IsLinkFailure c.start.result) (g.L.Link.failed c.args.link.now) c.start.new.self.link.now c.link-1.given.0 link c.start.ensures.counts in
    (counts.0, λ f. absurd f)
