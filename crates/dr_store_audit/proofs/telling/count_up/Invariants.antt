use Rattle.std.proofs.Common.{◌+◌, drop}
use Rattle.std.specs.Prelude.{◌↔◌}
use Rattle.dr_store_audit.specs.Journal.{CountUp}
use Rattle.dr_store_audit.proofs.telling.count_up.Given as goal

abbrev pub invariant-loop-i : goal.invariant-loop-i
invariant-loop-i l = CountUp (l.first + l.i) (drop l.i l.notes) ↔ CountUp l.first l.notes
