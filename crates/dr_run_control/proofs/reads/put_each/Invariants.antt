use Rattle.std.proofs.Common.{◌≡◌, ◌++◌, take, flat_map}
use Rattle.dr_run_answer.specs.Answers.{line_of_queue}
use Rattle.dr_run_control.proofs.reads.put_each.Given as goal

abbrev pub invariant-loop-queue : goal.invariant-loop-queue
invariant-loop-queue l = l.out.items ≡ l.initial.out.items ++ flat_map line_of_queue (take l.queue-index l.queues)
