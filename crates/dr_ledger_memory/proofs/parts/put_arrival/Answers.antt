use Rattle.dr_ledger.proofs.Maps.{text_pairs}
use Rattle.dr_ledger_memory.proofs.Trees.{set_put}
use Rattle.dr_ledger_memory.proofs.parts.put_arrival.Goals as goal

pub returns-clause-ok : goal.returns-clause-ok
returns-clause-ok c = set_put text_pairs.total c.args.arrivals.now c.insert.new.self c.args.arrival c.in_ok-insert.ensures.updates.0
