use Rattle.dr_ledger.proofs.Maps.{texts}
use Rattle.dr_ledger_history.proofs.Mapped.{taken_out}
use Rattle.dr_ledger_history.proofs.letting.take_item.Goals as goal

pub returns : goal.returns
returns c =
    taken_out texts c.args.items.now c.remove.new.self c.args.uid.now c.remove.ensures.updates.0
