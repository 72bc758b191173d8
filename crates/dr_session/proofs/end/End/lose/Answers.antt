use Rattle.dr_session.proofs.Ending.{loses_over, loses_core}
use Rattle.dr_session.proofs.end.End.lose.Goals as goal

pub returns-in_default : goal.returns-in_default
returns-in_default c = loses_over c.args.self.now c.take_core.new.self c.new.result c.in_default.ensures c.new.ensures

pub returns : goal.returns
returns c = loses_core c.args.self.now c.take_core.new.self c.take_core.result c.in-Some.core _ c.in-Some.is c.take_core.ensures
