use Rattle.dr_ledger_memory.proofs.Kept.{bodies_of, journal_of, new_order}
use Rattle.dr_ledger_memory.proofs.Ledgers.{new_sound, nothing_in}
use Rattle.dr_ledger_memory.proofs.ledger.MemoryLedger.new.Goals as goal

pub invariant_of-result : goal.invariant_of-result
invariant_of-result c =
    let e = c.new.ensures in
    let p = c.new.result in
    let order = new_order p e.held in
    let sound = ∣ new_sound p e.held e.arrivals e.notes c.args.site ∣₁ in
    record { ordered = order; sound = sound; journalled = journal_of c.args.site p sound; bodied = bodies_of c.args.site p order sound }

pub returns-clause-empty : goal.returns-clause-empty
returns-clause-empty c = let e = c.new.ensures in nothing_in c.new.result e.held e.arrivals e.notes
