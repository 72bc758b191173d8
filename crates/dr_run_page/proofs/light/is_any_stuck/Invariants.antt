use Rattle.std.proofs.Common.{◌≡◌, drop}
use Rattle.dr_run_page.specs.Documents.{is_any, is_stuck}
use Rattle.dr_run_page.proofs.light.is_any_stuck.Given as goal

abbrev pub invariant-loop-queue : goal.invariant-loop-queue
invariant-loop-queue l = is_any is_stuck l.queues ≡ is_any is_stuck (drop l.queue-index l.queues)
