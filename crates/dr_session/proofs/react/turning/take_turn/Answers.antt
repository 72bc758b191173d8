use Rattle.std.proofs.Common.{ap}
use Rattle.dr_session.specs.declared.ends.Told.{Told}
use Rattle.dr_session.specs.declared.ends.Told.TheVariants.{Plain}
use Rattle.dr_session.specs.Reactions.{turn}
use Rattle.dr_session.proofs.Acting.{done_by, looked_by}
use Rattle.dr_session.proofs.Wanting.{off_as, off_by}
use Rattle.dr_session.proofs.react.turning.take_turn.Goals as goal

pub turn_looked-requires-clause-looked : goal.turn_looked-requires-clause-looked
turn_looked-requires-clause-looked g c = looked_by c.args.told c.in_default.not-Plain

pub returns-in-Plain-clause-done : goal.returns-in-Plain-clause-done
returns-in-Plain-clause-done g c =
    done_by g.P.DeskPort.step (turn c.args.at c.args.core c.args.told) (turn c.args.at c.args.core (Plain c.in-Plain.input)) c.turn_plain.result c.args.port.now
    c.turn_plain.new.port (ap (λ (x : Told). turn c.args.at c.args.core x) c.in-Plain.is) c.turn_plain.ensures.done

pub returns-in-Plain-clause-broke : goal.returns-in-Plain-clause-broke
returns-in-Plain-clause-broke g c =
    off_as g.P.DeskPort.step c.args.at c.args.core c.args.told (Plain c.in-Plain.input) c.turn_plain.result c.args.port.now c.turn_plain.new.port c.in-Plain.is c.turn_plain.ensures.broke

pub returns-in_default : goal.returns-in_default
returns-in_default g c = record {
  done = c.turn_looked.ensures.done;
  broke = off_by g.P.DeskPort.step c.args.at c.args.core c.args.told c.turn_looked.result c.args.port.now c.turn_looked.new.port c.turn_looked.ensures.broke;
}
