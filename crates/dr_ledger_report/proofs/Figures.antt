-- The report of a node.
use Rattle.std.proofs.Common.{refl}
use Rattle.std.specs.Fmt.{digits}
use Rattle.hex.proofs.OnLiterals.{hex_on_literals}
use Rattle.dr_ledger_report.specs.Laws.{ReportOfANode}

pub reported : ReportOfANode
unfolding digits hex_on_literals
reported = (refl, refl, refl, refl)
