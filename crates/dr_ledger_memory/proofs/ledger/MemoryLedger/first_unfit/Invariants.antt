use Rattle.dr_ledger_memory.proofs.Fitting.{AreLeft}
use Rattle.dr_ledger_memory.proofs.ledger.MemoryLedger.first_unfit.Given as goal

abbrev pub invariant-loop-uid : goal.invariant-loop-uid
invariant-loop-uid l = AreLeft l.next.plan l.self.site.name l.self.parts l.self.ordered l.uid-iterator
