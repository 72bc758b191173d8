use Rattle.std.proofs.Common.{◌≡◌, drop}
use Rattle.dr_run_page.specs.Documents.{is_any, is_busy}
use Rattle.dr_run_page.proofs.light.is_any_busy.Given as goal

abbrev pub invariant-loop-queue : goal.invariant-loop-queue
invariant-loop-queue l = is_any is_busy l.queues ≡ is_any is_busy (drop l.queue-index l.queues)
