use Rattle.std.proofs.Common.{◌∙◌, sym}
use Rattle.dr_ledger.proofs.Maps.{text_pairs}
use Rattle.dr_ledger_history.proofs.Mapped.{get_at}
use Rattle.dr_ledger_history.proofs.parts.HistoryParts.row.Goals as goal

pub returns : goal.returns
returns c = c.copied.ensures ∙ (c.get.ensures.value ∙ sym (get_at text_pairs c.args.self.now.rows c.args.at.now))
