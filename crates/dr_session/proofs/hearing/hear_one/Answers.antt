use Rattle.std.proofs.Common.{[]}
use Rattle.dr_session.specs.Plays.{at_moment}
use Rattle.dr_session.proofs.InTurn.{plays_one, breaks_one, on_err}
use Rattle.dr_session.proofs.hearing.hear_one.Goals as goal

pub returns-clause-done : goal.returns-clause-done
returns-clause-done g c = plays_one g.P.DeskPort.step c.args.core (at_moment c.args.at c.args.input) c.args.port.now c.react.new.port c.in_ok-done.done c.in_ok-done.ensures.done

pub returns-in_err-done-clause-broke : goal.returns-in_err-done-clause-broke
returns-in_err-done-clause-broke g c = on_err _ _ (breaks_one g.P.DeskPort.step [] c.args.core (at_moment c.args.at c.args.input) c.args.port.now c.react.new.port c.in_err-done.ensures.broke)
