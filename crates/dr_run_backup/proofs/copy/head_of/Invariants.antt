use Rattle.std.proofs.Common.{◌≤◌}
use Rattle.dr_run_backup.proofs.copy.head_of.Given as goal

abbrev pub invariant-loop : goal.invariant-loop
invariant-loop l = l.count ≤ 32
