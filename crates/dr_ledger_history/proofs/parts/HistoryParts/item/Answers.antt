use Rattle.std.proofs.Common.{◌∙◌, sym}
use Rattle.dr_ledger.proofs.Maps.{texts}
use Rattle.dr_ledger_history.proofs.Mapped.{get_at}
use Rattle.dr_ledger_history.proofs.parts.HistoryParts.item.Goals as goal

pub returns : goal.returns
returns c = c.get.ensures.value ∙ sym (get_at texts c.args.self.now.items c.args.uid.now)
