use Rattle.std.proofs.Common.{Ok, refl}
use Rattle.dr_ledger_memory.proofs.Always.{counts, lasts}
use Rattle.dr_ledger_memory.proofs.Kept.{there_where_needed}
use Rattle.dr_ledger_memory.proofs.ledger.MemoryLedgerLedger.has_body.Goals as goal

-- by hand: the search loses itself in what the trait asks
pub returns : goal.returns
returns c =
    record {
      reply = λ holds. (let l = c.args.self.now in there_where_needed l.site l.parts l.ordered l.sound c.args.uid.now c.has_data_set.result c.has_data_set.ensures);
      same = λ holds. (refl, refl);
      counts = counts (Ok c.has_data_set.result) tt;
      armed = refl;
      stood = λ holds. holds;
      lasts = lasts (Ok c.has_data_set.result);
      site = refl;
    }
