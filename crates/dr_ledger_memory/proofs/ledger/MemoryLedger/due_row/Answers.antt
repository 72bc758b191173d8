use Rattle.dr_ledger_memory.proofs.Uids.{due_is}
use Rattle.dr_ledger_memory.proofs.ledger.MemoryLedger.due_row.Goals as goal

pub returns : goal.returns
returns c =
    let l = c.args.self.now in
    let e = c.in_ok-uid.ensures in
    due_is l.site l.parts l.ordered l.sound e.ordered c.args.dest.now c.args.now c.in_ok-uid.uid e.first
