use Rattle.std.proofs.Common.{ap}
use Rattle.dr_ledger_history.specs.declared.line.JournalLine.TheVariants as told
use Rattle.dr_ledger_read.proofs.reading.forgetting_at.Goals as goal

pub returns : goal.returns
returns c = λ u a. ap told.Forgetting (c.in_ok-uid.ensures u a)
