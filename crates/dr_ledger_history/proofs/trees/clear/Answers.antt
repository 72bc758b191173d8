use Rattle.dr_ledger.proofs.Maps.{text_pairs}
use Rattle.dr_ledger_history.proofs.Mapped.{no_keys}
use Rattle.dr_ledger_history.proofs.trees.clear.Goals as goal

pub returns : goal.returns
returns c = no_keys text_pairs c.clear.new.self c.clear.ensures.empty
