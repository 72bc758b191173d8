use Rattle.std.proofs.Common.{◌≡◌, ◌++◌, take, flat_map}
use Rattle.dr_run_answer.specs.Answers.{stages_of}
use Rattle.dr_run_answer.proofs.figures.put_each.Given as goal

abbrev pub invariant-loop-queue : goal.invariant-loop-queue
invariant-loop-queue l = l.out.items ≡ l.initial.out.items ++ flat_map stages_of (take l.queue-index l.queues)
