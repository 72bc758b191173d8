use Rattle.std.proofs.Common.{◌≡◌, take}
use Rattle.dr_run_report.specs.Places.{TakesName}
use Rattle.dr_run_report.specs.declared.judging.Spot.{Spot}
use Rattle.dr_run_report.proofs.Finding.{NoneOf}
use Rattle.dr_run_report.proofs.judging.is_taken.Given as goal

abbrev pub invariant-loop-ledger : goal.invariant-loop-ledger
invariant-loop-ledger l = NoneOf (λ (ledger : Spot). TakesName l.fn.spot ledger) (take l.ledger-index l.fn.ledgers)
