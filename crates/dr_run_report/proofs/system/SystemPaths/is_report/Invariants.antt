use Rattle.std.proofs.Common.{◌≤◌}
use Rattle.dr_run_report.proofs.system.SystemPaths.is_report.Given as goal

abbrev pub invariant-loop : goal.invariant-loop
invariant-loop l = l.count ≤ 5
