use Rattle.std.proofs.Common.{◌≡◌, ◌++◌}
use Rattle.dr_ledger_memory.proofs.ledger.MemoryLedger.all_arrivals.Given as goal

abbrev pub invariant-loop-key : goal.invariant-loop-key
invariant-loop-key l = l.all ++ l.key-iterator ≡ l.self.parts.arrivals.keys
