use Rattle.std.proofs.Common.{◌≡◌, ◌++◌}
use Rattle.dr_ledger_memory.specs.Contents.{kept_list}
use Rattle.dr_ledger_memory.proofs.ledger.MemoryLedger.all_kept.Given as goal

abbrev pub invariant-loop-uid : goal.invariant-loop-uid
invariant-loop-uid l = l.all ++ kept_list l.uid-iterator ≡ kept_list l.self.parts.held.entries
