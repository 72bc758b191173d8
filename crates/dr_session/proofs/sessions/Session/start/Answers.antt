use Rattle.std.specs.Prelude.{ℕ}
use Rattle.dr_session.specs.Links.{EndsAs}
use Rattle.dr_session.proofs.Keeping.{kept_on, as_kept}
use Rattle.dr_session.specs.Sessions.{place_of}
use Rattle.dr_session.proofs.Serving.{starts, starts_not, failure_same, counts_later}
use Rattle.dr_session.proofs.sessions.Session.start.Goals as goal

pub returns-in_err-carry_out-clause-starts : goal.returns-in_err-carry_out-clause-starts
returns-in_err-carry_out-clause-starts g c =
    starts_not g.L.Link.hears g.L.Link.sends g.L.Link.closes g.P.DeskPort.step (g.C.Clock.tells c.args.self.now.clock.now) c.args.self.now.others c.args.kind c.in_err-carry_out.field-0.0 c.from_residual.result c.args.actions c.args.at
    (place_of c.args.self.now c.args.end) (place_of c.carry_out.new.self c.carry_out.new.end) c.from_residual.ensures.0 c.from_residual.ensures.1 c.requires.is c.in_err-carry_out.ensures.does

pub returns-in_err-carry_out-clause-counts : goal.returns-in_err-carry_out-clause-counts
returns-in_err-carry_out-clause-counts g c =
    failure_same (Unit {0}) c.from_residual.result c.in_err-carry_out.field-0.0 _ _ c.from_residual.ensures.0 c.from_residual.ensures.1 c.in_err-carry_out.ensures.counts

pub returns-clause-starts : goal.returns-clause-starts
returns-clause-starts g c =
    let E : (ℕ → Type 0) → ℕ → Type 0 = λ tells n. EndsAs g.L.Link.hears g.L.Link.sends g.L.Link.closes g.P.DeskPort.step tells n c.args.kind c.run.result (place_of c.carry_out.new.self c.carry_out.new.end) c.run.new.self.link.now c.run.new.self.port.now in
    starts g.L.Link.hears g.L.Link.sends g.L.Link.closes g.P.DeskPort.step (g.C.Clock.tells c.args.self.now.clock.now) c.args.self.now.others c.args.kind c.run.result c.args.actions c.args.at
    (place_of c.args.self.now c.args.end) (place_of c.carry_out.new.self c.carry_out.new.end) c.run.new.self.link.now c.run.new.self.port.now c.in_ok-carry_out.ensures.does
    (as_kept E g.C.Clock.tells c.args.self.now c.carry_out.new.self c.in_ok-carry_out.ensures.keeps c.run.ensures.ends)

pub returns-clause-counts : goal.returns-clause-counts
returns-clause-counts g c = counts_later _ _ _ _ c.in_ok-carry_out.ensures.counts.0 c.run.ensures.counts

pub returns-in_err-carry_out-clause-keeps : goal.returns-in_err-carry_out-clause-keeps
returns-in_err-carry_out-clause-keeps g c = c.in_err-carry_out.ensures.keeps

pub returns-clause-keeps : goal.returns-clause-keeps
returns-clause-keeps g c = kept_on c.args.self.now c.carry_out.new.self c.run.new.self c.in_ok-carry_out.ensures.keeps c.run.ensures.keeps
