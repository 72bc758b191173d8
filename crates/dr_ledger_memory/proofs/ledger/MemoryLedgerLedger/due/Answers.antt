use Rattle.std.proofs.Common.{refl}
use Rattle.dr_ledger_memory.proofs.Always.{counts, lasts, reads, shown_never}
use Rattle.dr_ledger_memory.proofs.ledger.MemoryLedgerLedger.due.Goals as goal

-- by hand: the search loses itself in what the trait asks
pub returns : goal.returns
returns c =
    let e = c.due_row.ensures in
    let r = c.due_row.result in
    record {
      reply = λ holds. reads r _ e;
      same = λ holds. (refl, refl);
      counts = counts r (shown_never r _ e);
      armed = refl;
      stood = λ holds. holds;
      lasts = lasts r;
      site = refl;
    }
