use Rattle.std.proofs.Common.{◌∙◌, sym}
use Rattle.dr_ledger.proofs.Maps.{texts}
use Rattle.dr_ledger_history.proofs.Mapped.{has_at}
use Rattle.dr_ledger_history.proofs.parts.HistoryParts.is_kept.Goals as goal

pub returns : goal.returns
returns c = c.contains.ensures ∙ sym (has_at texts c.args.self.now.kept c.args.uid.now)
