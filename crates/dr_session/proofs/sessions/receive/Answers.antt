use Rattle.std.proofs.Common.{◌≡◌, ℕ, ap, subst, ◌∙◌, arith, rules}
use Rattle.dr_site.specs.Parts.{Part}
use Rattle.dr_session.specs.declared.wishes.Kind.TheVariants.{Receive}
use Rattle.dr_session.specs.Ends.{Terminal, accepting, begins}
use Rattle.dr_session.specs.Links.{EndsAs, IsLinkFailure, place}
use Rattle.dr_session.proofs.Keeping.{handed_back, counts_back}
use Rattle.dr_session.proofs.Serving.{ends_unbegun, memory_counts}
use Rattle.dr_session.proofs.sessions.receive.Goals as goal

pub returns-clause-ends : goal.returns-clause-ends
returns-clause-ends g c =
    let link : c.run.new.self.link.now ≡ c.link-1.given.0 = search rules in
    let port : c.run.new.self.port.now ≡ c.port-1.given.0 = search rules in
    let E : Terminal → Type 0 = λ x. EndsAs g.L.Link.hears g.L.Link.sends g.L.Link.closes g.P.DeskPort.step (g.C.Clock.tells c.args.clock.now) c.args.others Receive c.run.result (place c.args.link.now c.args.port.now x)
    c.link-1.given.0 c.port-1.given.0 in
    subst E (c.in_ok-end.ensures ∙ (ap (λ (s : Part). begins s.max_pdu (accepting s c.opened.result)) c.in_ok-site.ensures
    ∙ ap (λ (n : ℕ). begins c.args.site.now.max_pdu (accepting c.args.site.now n)) c.opened.ensures.at))
    (handed_back (λ l t. EndsAs g.L.Link.hears g.L.Link.sends g.L.Link.closes g.P.DeskPort.step (g.C.Clock.tells c.args.clock.now) c.args.others Receive c.run.result (place c.args.link.now c.args.port.now c.in_ok-end.end) l t)
    c.run.new.self.link.now c.link-1.given.0 c.run.new.self.port.now c.port-1.given.0 link port c.run.ensures.ends)

pub returns-clause-counts : goal.returns-clause-counts
returns-clause-counts g c =
    let link : c.run.new.self.link.now ≡ c.link-1.given.0 = search rules in
    counts_back g.L.Link.failed (IsLinkFailure c.run.result) (g.L.Link.failed c.args.link.now) c.run.new.self.link.now c.link-1.given.0 link c.run.ensures.counts

pub returns-in_err-site-clause-ends : goal.returns-in_err-site-clause-ends
returns-in_err-site-clause-ends g c =
    ends_unbegun g.L.Link.hears g.L.Link.sends g.L.Link.closes g.P.DeskPort.step (g.C.Clock.tells c.args.clock.now) c.args.others Receive c.from_residual.result (place c.args.link.now c.args.port.now _)
    c.from_residual.ensures.0 c.from_residual.ensures.1

pub returns-in_err-site-clause-counts : goal.returns-in_err-site-clause-counts
returns-in_err-site-clause-counts g c = memory_counts c.from_residual.result _ _ c.from_residual.ensures.0 c.from_residual.ensures.1 (omega arith)

pub returns-in_err-end-clause-ends : goal.returns-in_err-end-clause-ends
returns-in_err-end-clause-ends g c =
    ends_unbegun g.L.Link.hears g.L.Link.sends g.L.Link.closes g.P.DeskPort.step (g.C.Clock.tells c.args.clock.now) c.args.others Receive c.from_residual-in_err-end.result (place c.args.link.now c.args.port.now _)
    c.from_residual-in_err-end.ensures.0 c.from_residual-in_err-end.ensures.1

pub returns-in_err-end-clause-counts : goal.returns-in_err-end-clause-counts
returns-in_err-end-clause-counts g c = memory_counts c.from_residual-in_err-end.result _ _ c.from_residual-in_err-end.ensures.0 c.from_residual-in_err-end.ensures.1 (omega arith)
