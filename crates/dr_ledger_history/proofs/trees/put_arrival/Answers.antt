use Rattle.dr_ledger.proofs.Maps.{text_pairs}
use Rattle.dr_ledger_history.proofs.Mapped.{set_put}
use Rattle.dr_ledger_history.proofs.trees.put_arrival.Goals as goal

pub returns : goal.returns
returns c = set_put text_pairs c.args.arrivals.now c.insert.new.self c.args.arrival c.in_ok-insert.ensures.updates.0
