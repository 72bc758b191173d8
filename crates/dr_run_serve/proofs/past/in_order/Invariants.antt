use Rattle.std.proofs.Common.{◌≡◌, ◌++◌, map, ℕ}
use Rattle.dr_run_serve.proofs.Noting.{over_of}
use Rattle.dr_run_serve.proofs.past.in_order.Given as goal

abbrev pub invariant-loop-uid : goal.invariant-loop-uid
invariant-loop-uid l = l.all.items ++ map over_of l.uid-iterator ≡ map over_of l.fn.ends.entries
