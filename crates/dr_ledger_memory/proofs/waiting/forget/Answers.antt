use Rattle.std.proofs.Common.{sym, ◌∙◌}
use Rattle.dr_ledger_memory.proofs.NextDue.{forgotten}
use Rattle.dr_ledger_memory.proofs.waiting.forget.Goals as goal

pub returns-then-not-is_waiting : goal.returns-then-not-is_waiting
returns-then-not-is_waiting c = forgotten c.args.keys.now c.remove.new.self c.args.held.now c.args.key.now (sym c.is_waiting.ensures ∙ c.if-not-is_waiting.true) c.remove.ensures.updates.0
