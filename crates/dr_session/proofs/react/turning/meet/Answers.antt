use Rattle.dr_ulstate.specs.Phases.{event_of, is_acceptable}
use Rattle.dr_session.proofs.Acting.{done_moved, broke_moved, done_unmoved}
use Rattle.dr_session.proofs.react.turning.meet.Goals as goal

pub returns-in-Ok-clause-done : goal.returns-in-Ok-clause-done
returns-in-Ok-clause-done g c =
    done_moved g.P.DeskPort.step c.args.at c.args.told c.args.core c.in-Ok.core (event_of c.args.incoming) (is_acceptable c.args.incoming) c.step.result c.in-Ok.action c.requires.event c.requires.taken c.step.ensures c.in-Ok.is
    c.act.result c.args.port.now c.act.new.port c.act.ensures.done

pub returns-in-Ok-clause-broke : goal.returns-in-Ok-clause-broke
returns-in-Ok-clause-broke g c =
    broke_moved g.P.DeskPort.step c.args.at c.args.told c.args.core c.in-Ok.core (event_of c.args.incoming) (is_acceptable c.args.incoming) c.step.result c.in-Ok.action c.requires.event c.requires.taken c.step.ensures c.in-Ok.is
    c.act.result c.args.port.now c.act.new.port c.act.ensures.broke

pub returns-in-Err-clause-done : goal.returns-in-Err-clause-done
returns-in-Err-clause-done g c =
    done_unmoved g.P.DeskPort.step c.args.at c.args.told c.args.core c.in-Err.core (event_of c.args.incoming) (is_acceptable c.args.incoming) c.step.result c.requires.event c.requires.taken c.step.ensures c.in-Err.is
    c.quiet.result c.args.port.now c.quiet.ensures
