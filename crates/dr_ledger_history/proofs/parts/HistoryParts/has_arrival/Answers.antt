use Rattle.std.proofs.Common.{◌∙◌, sym}
use Rattle.dr_ledger.proofs.Maps.{text_pairs}
use Rattle.dr_ledger_history.proofs.Mapped.{has_at}
use Rattle.dr_ledger_history.proofs.parts.HistoryParts.has_arrival.Goals as goal

pub returns : goal.returns
returns c = c.contains.ensures ∙ sym (has_at text_pairs c.args.self.now.arrivals c.args.arrival.now)
