use Rattle.std.proofs.Common.{◌∙◌}
use Rattle.dr_ledger_memory.proofs.Trees.{still_in}
use Rattle.dr_ledger_memory.proofs.waiting.expect_one.Goals as goal

pub returns-in_ok-insert-clause-grows : goal.returns-in_ok-insert-clause-grows
returns-in_ok-insert-clause-grows c = λ key h. c.in_ok-insert.ensures.updates.0 key ∙ still_in _ _ h
