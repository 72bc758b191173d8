use Rattle.std.proofs.Common.{◌≡◌, ◌++◌, take, flat_map}
use Rattle.dr_run_answer.specs.Answers.{visits_of}
use Rattle.dr_run_answer.proofs.figures.put_each_visits.Given as goal

abbrev pub invariant-loop-queue : goal.invariant-loop-queue
invariant-loop-queue l =
    l.out.items ≡ l.initial.out.items ++ flat_map visits_of (take l.queue-index l.queues)
