use Rattle.dr_ledger.proofs.Shown.{each_call_keeps_premises, premises_last}
use Rattle.dr_ledger.proofs.laws.premises_last.Goals as goal

pub returns-clause-lasts : goal.returns-clause-lasts
returns-clause-lasts c = premises_last

pub returns-clause-calls : goal.returns-clause-calls
returns-clause-calls c = each_call_keeps_premises
