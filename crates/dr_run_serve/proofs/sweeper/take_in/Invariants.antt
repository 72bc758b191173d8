use Rattle.std.proofs.Common.{◌≡◌, ◌++◌, List, length}
use Rattle.dr_run_serve.specs.declared.sweep.OverInstance.{OverInstance}
use Rattle.dr_run_serve.proofs.sweeper.take_in.Given as goal

abbrev pub invariant-loop-turn : goal.invariant-loop-turn
invariant-loop-turn g l = (more : List OverInstance) × (l.sweep.queue.items ≡ l.initial.sweep.queue.items ++ more) × (length more ≡ l._turn)
