use Rattle.std.proofs.Common.{◌≡◌, ◌++◌, take, flat_map}
use Rattle.dr_run_answer.specs.Answers.{age_of}
use Rattle.dr_run_answer.proofs.figures.put_each_age.Given as goal

abbrev pub invariant-loop-queue : goal.invariant-loop-queue
invariant-loop-queue l =
    l.out.items ≡ l.initial.out.items ++ flat_map age_of (take l.queue-index l.queues)
