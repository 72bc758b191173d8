use Rattle.std.proofs.Common.{◌≡◌, ◌++◌, take, flat_map}
use Rattle.std.specs.Prelude.{option_copied}
use Rattle.dr_run_page.specs.Documents.{queue_row}
use Rattle.dr_run_page.proofs.written.put_queues.Given as goal

abbrev pub invariant-loop-queue : goal.invariant-loop-queue
invariant-loop-queue l =
    l.out.items
    ≡ l.initial.out.items
    ++ flat_map (queue_row l.now (option_copied l.key)) (take l.queue-index l.queues)
