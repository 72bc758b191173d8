use Rattle.std.proofs.Common.{◌≡◌, ◌++◌}
use Rattle.dr_ledger_memory.specs.Contents.{all_rows}
use Rattle.dr_ledger_memory.proofs.ledger.MemoryLedger.all_rows.Given as goal

abbrev pub invariant-loop-uid : goal.invariant-loop-uid
invariant-loop-uid l = l.all ++ all_rows l.uid-iterator ≡ all_rows l.self.parts.held.entries
