use Rattle.dr_ledger_report.proofs.Figures.{reported}
use Rattle.dr_ledger_report.proofs.laws.a_report_is_printed_so.Goals as goal

pub returns : goal.returns
returns c = reported
