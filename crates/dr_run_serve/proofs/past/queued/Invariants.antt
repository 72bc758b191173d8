use Rattle.std.proofs.Common.{◌≡◌, ◌++◌}
use Rattle.dr_run_serve.proofs.past.queued.Given as goal

abbrev pub invariant-loop-over : goal.invariant-loop-over
invariant-loop-over l = l.sweep.queue.items ≡ l.yielded
