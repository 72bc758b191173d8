use Rattle.std.proofs.Common.{◌∙◌}
use Rattle.dr_session.proofs.Ending.{begin_as}
use Rattle.dr_session.proofs.end.End.accept.Goals as goal

pub returns : goal.returns
returns c = begin_as c.new-ear.result c.in_ok-core.core _ c.args.site.max_pdu c.max_pdu.result c.new-ear.ensures c.max_pdu.ensures (c.in_ok-core.ensures ∙ c.acceptor.ensures)
