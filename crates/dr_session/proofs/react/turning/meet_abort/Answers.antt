use Rattle.std.proofs.Common.{true}
use Rattle.dr_ulstate.specs.declared.table.Event.TheVariants.{AbortRequest}
use Rattle.dr_session.proofs.Acting.{done_moved, broke_moved, done_unmoved}
use Rattle.dr_session.proofs.react.turning.meet_abort.Goals as goal

pub returns-in-Ok-clause-done : goal.returns-in-Ok-clause-done
returns-in-Ok-clause-done g c =
    done_moved g.P.DeskPort.step c.args.at c.args.told c.args.core c.in-Ok.core AbortRequest true c.step_abort.result c.in-Ok.action c.requires.event c.requires.taken c.step_abort.ensures c.in-Ok.is
    c.act.result c.args.port.now c.act.new.port c.act.ensures.done

pub returns-in-Ok-clause-broke : goal.returns-in-Ok-clause-broke
returns-in-Ok-clause-broke g c =
    broke_moved g.P.DeskPort.step c.args.at c.args.told c.args.core c.in-Ok.core AbortRequest true c.step_abort.result c.in-Ok.action c.requires.event c.requires.taken c.step_abort.ensures c.in-Ok.is
    c.act.result c.args.port.now c.act.new.port c.act.ensures.broke

pub returns-in-Err-clause-done : goal.returns-in-Err-clause-done
returns-in-Err-clause-done g c =
    done_unmoved g.P.DeskPort.step c.args.at c.args.told c.args.core c.in-Err.core AbortRequest true c.step_abort.result c.requires.event c.requires.taken c.step_abort.ensures c.in-Err.is
    c.quiet.result c.args.port.now c.quiet.ensures
