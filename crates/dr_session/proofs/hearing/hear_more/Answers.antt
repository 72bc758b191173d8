use Rattle.std.proofs.Common.{[], ◌∷◌}
use Rattle.dr_session.specs.Plays.{at_moment}
use Rattle.dr_session.proofs.InTurn.{breaks_behind, breaks_since, on_err}
use Rattle.dr_session.proofs.hearing.hear_more.Goals as goal

pub returns-clause-done : goal.returns-clause-done
returns-clause-done g c = (c.in_ok-last.last.acts, c.in_ok-last.ensures.done, c.in_ok-acts.ensures.joined)

pub returns-in_err-acts-clause-broke : goal.returns-in_err-acts-clause-broke
returns-in_err-acts-clause-broke g c = on_err _ _
    (breaks_behind g.P.DeskPort.step c.args.first.acts c.args.first.core c.in_ok-last.last.core (at_moment c.args.at c.args.input ∷ []) [] c.args.port.now c.hear_one.new.port c.in_ok-last.last.acts c.in_ok-last.ensures.done
    c.in_err-acts.ensures.wants)

pub returns-in_err-last-clause-broke : goal.returns-in_err-last-clause-broke
returns-in_err-last-clause-broke g c = on_err _ _
    (breaks_since g.P.DeskPort.step c.args.first.acts (at_moment c.args.at c.args.input ∷ []) c.args.first.core c.args.port.now c.hear_one.new.port c.in_err-last.ensures.broke)
