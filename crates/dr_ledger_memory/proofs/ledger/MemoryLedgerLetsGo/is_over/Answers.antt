use Rattle.std.proofs.Common.{Ok, refl}
use Rattle.dr_ledger_memory.proofs.Always.{counts, lasts}
use Rattle.dr_ledger_memory.proofs.ledger.MemoryLedgerLetsGo.is_over.Goals as goal

-- by hand: the search loses itself in what the trait asks
pub returns : goal.returns
returns c =
    record {
      reply = λ holds. c.is_over_with.ensures;
      same = λ holds. (refl, refl);
      counts = counts (Ok c.is_over_with.result) tt;
      armed = refl;
      stood = λ holds. holds;
      lasts = lasts (Ok c.is_over_with.result);
      site = refl;
    }
