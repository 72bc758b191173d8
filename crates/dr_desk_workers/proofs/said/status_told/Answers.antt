use Rattle.dr_desk_workers.proofs.Responses.{told_by, told_none}
use Rattle.dr_desk_workers.proofs.said.status_told.Goals as goal

pub returns-in-Ok : goal.returns-in-Ok
returns-in-Ok c = told_by c.args.text.now _ c.status_of.result c.in-Ok.ensures c.status_of.ensures

pub returns-in-BadCommand : goal.returns-in-BadCommand
returns-in-BadCommand c = told_none c.args.text.now c.in-Err.fault c.in-Err.ensures c.in-BadCommand.is
