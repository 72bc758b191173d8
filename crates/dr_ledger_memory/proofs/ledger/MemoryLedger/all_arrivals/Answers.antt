use Rattle.std.proofs.Common.{◌∙◌, ◌++◌, ap, sym}
use Rattle.dr_ledger_memory.proofs.Lists.{append_nil, listed_arrivals}
use Rattle.dr_ledger_memory.proofs.ledger.MemoryLedger.all_arrivals.Goals as goal

pub returns : goal.returns
returns c =
    let all = c.loop-key.all in
    listed_arrivals c.args.self.now.parts all c.into_iter-key-iterator.ensures.into_iter_gives.4
    (sym (append_nil all) ∙ (ap (λ rest. all ++ rest) (sym c.in-None.ensures.steps.0) ∙ c.loop-key.invariant))
