use Rattle.dr_node.proofs.Alone.{free, known}
use Rattle.dr_node.proofs.laws.accepts_where_free.Goals as goal

pub returns-clause-free : goal.returns-clause-free
returns-clause-free c = free

pub returns-clause-known : goal.returns-clause-known
returns-clause-known c = known
