use Rattle.std.proofs.Common.{refl, arith}
use Rattle.dr_session.specs.declared.ends.Input.TheVariants.{ReleaseAsked}
use Rattle.dr_session.specs.declared.wishes.Wish.TheVariants.{Release}
use Rattle.dr_session.specs.Sessions.{place_of}
use Rattle.dr_session.specs.Links.{Asks, IsWished, place}
use Rattle.dr_session.proofs.Serving.{goes_on, memory_ends, memory_counts}
use Rattle.dr_session.proofs.sessions.Session.ask_release.Goals as goal

pub returns-in_err-actions-clause-does : goal.returns-in_err-actions-clause-does
returns-in_err-actions-clause-does g c =
    memory_ends g.L.Link.hears g.L.Link.sends g.L.Link.closes g.P.DeskPort.step (g.C.Clock.tells c.args.self.now.clock.now) c.args.self.now.others (IsWished Release) (Asks c.moment-at.result ReleaseAsked) c.in_err-actions.field-0.0
    (place_of c.args.self.now c.args.end.now) (place c.args.self.now.link.now c.release.new.port c.release.new.self) c.from_residual.result c.from_residual.ensures.0 c.from_residual.ensures.1 refl
    (c.moment-at.ensures.is, refl, c.in_err-actions.ensures)

pub returns-in_err-actions-clause-counts : goal.returns-in_err-actions-clause-counts
returns-in_err-actions-clause-counts g c = memory_counts c.from_residual.result _ _ c.from_residual.ensures.0 c.from_residual.ensures.1 (omega arith)

pub returns-clause-does : goal.returns-clause-does
returns-clause-does g c =
    goes_on g.L.Link.hears g.L.Link.sends g.L.Link.closes g.P.DeskPort.step (g.C.Clock.tells c.args.self.now.clock.now) c.args.self.now.others (IsWished Release) (Asks c.moment-at.result ReleaseAsked) c.moment-at.result c.in_ok-actions.actions
    (place_of c.args.self.now c.args.end.now) (place c.args.self.now.link.now c.release.new.port c.release.new.self) (place_of c.carry_out.new.self c.carry_out.new.end) c.carry_out.result refl
    (c.moment-at.ensures.is, refl, c.in_ok-actions.ensures) c.moment-at.ensures.is (λ h. h) c.carry_out.ensures.does

pub returns-clause-counts : goal.returns-clause-counts
returns-clause-counts g c = c.carry_out.ensures.counts

pub returns-in_err-actions-clause-keeps : goal.returns-in_err-actions-clause-keeps
returns-in_err-actions-clause-keeps g c = (refl, refl, refl, refl)

pub returns-clause-keeps : goal.returns-clause-keeps
returns-clause-keeps g c = c.carry_out.ensures.keeps
