use Rattle.std.proofs.Common.{◌≡◌, List, Result, Ok, Err, refl, subst, arith, rules}
use Rattle.dr_nego.specs.declared.fault.NegoFault.{NegoFault}
use Rattle.dr_nego.specs.declared.fault.NegoFault.TheVariants as negofault
use Rattle.dr_session.specs.declared.ends.Ended.{Ended}
use Rattle.dr_session.specs.declared.ends.LinkAction.{LinkAction}
use Rattle.dr_session.specs.declared.sessions.SessionFault.TheVariants.{NoHop}
use Rattle.dr_session.specs.Ends.{Terminal, OpensTo}
use Rattle.dr_session.specs.Links.{DeliversAs, IsLinkFailure}
use Rattle.dr_session.proofs.Keeping.{handed_back, counts_back}
use Rattle.dr_session.proofs.Serving.{memory_counts}
use Rattle.dr_session.proofs.Asking.{delivers_unbegun, delivers_refused, delivers_started, refusal_counts}
use Rattle.dr_session.proofs.sessions.deliver.Goals as goal

pub returns-then-not-has_hop-clause-ends : goal.returns-then-not-has_hop-clause-ends
returns-then-not-has_hop-clause-ends g c = (c.if-not-has_hop.ensures, refl, refl)

pub returns-then-not-has_hop-clause-counts : goal.returns-then-not-has_hop-clause-counts
returns-then-not-has_hop-clause-counts g c = refusal_counts Ended NoHop negofault.NoHop _ _ refl (omega arith)

pub returns-in_err-site-clause-ends : goal.returns-in_err-site-clause-ends
returns-in_err-site-clause-ends g c =
    delivers_unbegun g.L.Link.hears g.L.Link.sends g.L.Link.closes g.P.DeskPort.step (g.C.Clock.tells c.args.clock.now) c.args.site.now c.args.dest.now c.from_residual.result c.args.link.now c.args.port.now
    c.if-not-has_hop.ensures c.from_residual.ensures.0 c.from_residual.ensures.1

pub returns-in_err-site-clause-counts : goal.returns-in_err-site-clause-counts
returns-in_err-site-clause-counts g c = memory_counts c.from_residual.result _ _ c.from_residual.ensures.0 c.from_residual.ensures.1 (omega arith)

pub start-requires-clause-is : goal.start-requires-clause-is
start-requires-clause-is g c = c.moment-at.ensures.is

pub returns-in-Ok-clause-ends : goal.returns-in-Ok-clause-ends
returns-in-Ok-clause-ends g c =
    let link : c.start.new.self.link.now ≡ c.link-1.given.0 = search rules in
    let port : c.start.new.self.port.now ≡ c.port-1.given.0 = search rules in
    handed_back (λ l t. DeliversAs g.L.Link.hears g.L.Link.sends g.L.Link.closes g.P.DeskPort.step (g.C.Clock.tells c.args.clock.now) 0 c.args.site.now c.args.dest.now c.start.result c.args.link.now c.args.port.now l t)
    c.start.new.self.link.now c.link-1.given.0 c.start.new.self.port.now c.port-1.given.0 link port
    (delivers_started g.L.Link.hears g.L.Link.sends g.L.Link.closes g.P.DeskPort.step (g.C.Clock.tells c.args.clock.now) c.args.site.now c.args.dest.now c.in_ok-site.site c.request.result c.start.result
    c.in-Ok.end c.in-Ok.actions c.moment-at.result.now c.args.link.now c.start.new.self.link.now c.args.port.now c.start.new.self.port.now c.in_ok-site.ensures c.in-Ok.is c.request.ensures c.moment-at.ensures.is.0 c.start.ensures.starts)

pub returns-in-Ok-clause-counts : goal.returns-in-Ok-clause-counts
returns-in-Ok-clause-counts g c =
    let link : c.start.new.self.link.now ≡ c.link-1.given.0 = search rules in
    counts_back g.L.Link.failed (IsLinkFailure c.start.result) (g.L.Link.failed c.args.link.now) c.start.new.self.link.now c.link-1.given.0 link c.start.ensures.counts

pub returns-in-Err-clause-ends : goal.returns-in-Err-clause-ends
returns-in-Err-clause-ends g c =
    let O : Result (Terminal × List LinkAction) NegoFault → Type 0 = λ r. OpensTo c.in_ok-site.site c.args.dest.now c.moment-at.result.now r in
    delivers_refused g.L.Link.hears g.L.Link.sends g.L.Link.closes g.P.DeskPort.step (g.C.Clock.tells c.args.clock.now) c.args.site.now c.args.dest.now c.in_ok-site.site c.in-Err.fault c.refusal.result
    c.moment-at.result.now c.args.link.now c.args.port.now c.in_ok-site.ensures (subst O c.in-Err.is c.request.ensures) c.refusal.ensures

pub returns-in-Err-clause-counts : goal.returns-in-Err-clause-counts
returns-in-Err-clause-counts g c = refusal_counts Ended c.refusal.result c.in-Err.fault _ _ c.refusal.ensures (omega arith)
