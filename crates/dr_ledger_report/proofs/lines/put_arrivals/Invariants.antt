use Rattle.std.proofs.Common.{◌≡◌, ◌++◌, take}
use Rattle.std.specs.Prelude.{flat_map}
use Rattle.dr_ledger_report.specs.Reports.{arrival_line}
use Rattle.dr_ledger_report.proofs.lines.put_arrivals.Given as goal

abbrev pub invariant-loop-arrival : goal.invariant-loop-arrival
invariant-loop-arrival l = l.out.items ≡ l.initial.out.items ++ flat_map arrival_line (take l.arrival-index l.arrivals)
