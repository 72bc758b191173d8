use Rattle.std.proofs.Common.{◌≡◌, ◌↔◌, Bool, refl, subst, sym}
use Rattle.std.specs.Prelude.{IsTrue}
use Rattle.std.proofs.lemmas.Bool.{false≢true}
use Rattle.dr_session.specs.declared.ends.Heard.TheVariants as heard
use Rattle.dr_session.specs.declared.wishes.Wish.TheVariants.{Listen}
use Rattle.dr_session.specs.Ends.{HearsOf}
use Rattle.dr_session.specs.Sessions.{place_of}
use Rattle.dr_session.specs.Links.{Hears, IsLinkFault, IsWished, place}
use Rattle.dr_session.proofs.Serving.{fault_is, goes_on, memory_ends, memory_counts, performed_hears, counts_later, heard_fault}
use Rattle.dr_session.proofs.sessions.Session.hear_next.Goals as goal

pub returns-then-is_fault-clause-does : goal.returns-then-is_fault-clause-does
returns-then-is_fault-clause-does g c =
    let F : Bool → Type 0 = λ b. IsTrue b ↔ IsLinkFault c.recv-heard.result in
    let is = fault_is c.recv-heard.result ((subst F c.if-is_fault.true c.is_fault-is_fault.ensures).0 refl) in
    heard_fault g.L.Link.hears g.P.DeskPort.step (g.C.Clock.tells c.args.self.now.clock.now) c.args.self.now.others c.moment-at.result c.recv-heard.result c.in_ok-actions.actions c.args.self.now.link.now c.recv-heard.new.self c.args.end.now c.hear.new.self
    c.args.self.now.port.now c.hear.new.port is c.moment-at.ensures.is c.recv-heard.ensures.hears c.in_ok-actions.ensures

pub returns-then-is_fault-clause-counts : goal.returns-then-is_fault-clause-counts
returns-then-is_fault-clause-counts g c =
    let F : Bool → Type 0 = λ b. IsTrue b ↔ IsLinkFault c.recv-heard.result in
    let is = (subst F c.if-is_fault.true c.is_fault-is_fault.ensures).0 refl in
    (c.recv-heard.ensures.counts.0, λ f. c.recv-heard.ensures.counts.1 is)

pub returns-in_err-actions-clause-does : goal.returns-in_err-actions-clause-does
returns-in_err-actions-clause-does g c =
    memory_ends g.L.Link.hears g.L.Link.sends g.L.Link.closes g.P.DeskPort.step (g.C.Clock.tells c.args.self.now.clock.now) c.args.self.now.others (IsWished Listen) (Hears c.moment-at.result c.recv-heard.result) c.in_err-actions.field-0.0
    (place_of c.args.self.now c.args.end.now) (place c.recv-heard.new.self c.hear.new.port c.hear.new.self) c.from_residual.result c.from_residual.ensures.0 c.from_residual.ensures.1 tt
    (c.moment-at.ensures.is, c.recv-heard.ensures.hears, c.in_err-actions.ensures)

pub returns-in_err-actions-clause-counts : goal.returns-in_err-actions-clause-counts
returns-in_err-actions-clause-counts g c = memory_counts c.from_residual.result _ _ c.from_residual.ensures.0 c.from_residual.ensures.1 c.recv-heard.ensures.counts.0

pub returns-clause-does : goal.returns-clause-does
returns-clause-does g c =
    let F : Bool → Type 0 = λ b. IsTrue b ↔ IsLinkFault c.recv-heard.result in
    let none = subst F c.if-is_fault.false c.is_fault-is_fault.ensures in
    let other = λ (is : c.recv-heard.result ≡ heard.Fault). false≢true (none.1 (subst IsLinkFault (sym is) tt)) in
    goes_on g.L.Link.hears g.L.Link.sends g.L.Link.closes g.P.DeskPort.step (g.C.Clock.tells c.args.self.now.clock.now) c.args.self.now.others (IsWished Listen) (Hears c.moment-at.result c.recv-heard.result) c.moment-at.result c.in_ok-actions.actions
    (place_of c.args.self.now c.args.end.now) (place c.recv-heard.new.self c.hear.new.port c.hear.new.self) (place_of c.carry_out.new.self c.carry_out.new.end) c.carry_out.result tt
    (c.moment-at.ensures.is, c.recv-heard.ensures.hears, c.in_ok-actions.ensures) c.moment-at.ensures.is
    (λ h. performed_hears g.L.Link.hears g.L.Link.sends g.L.Link.closes g.P.DeskPort.step (g.C.Clock.tells c.args.self.now.clock.now) c.args.self.now.others c.moment-at.result c.recv-heard.result _ _ c.in_ok-actions.actions other h)
    c.carry_out.ensures.does

pub returns-clause-counts : goal.returns-clause-counts
returns-clause-counts g c = counts_later _ _ _ _ c.recv-heard.ensures.counts.0 c.carry_out.ensures.counts

pub returns-then-is_fault-clause-keeps : goal.returns-then-is_fault-clause-keeps
returns-then-is_fault-clause-keeps g c = (refl, refl, refl, refl)

pub returns-in_err-actions-clause-keeps : goal.returns-in_err-actions-clause-keeps
returns-in_err-actions-clause-keeps g c = (refl, refl, refl, refl)

pub returns-clause-keeps : goal.returns-clause-keeps
returns-clause-keeps g c = c.carry_out.ensures.keeps
