use Rattle.dr_ledger_memory.proofs.ledger.MemoryLedgerViews.callers_of.Goals as goal

-- by hand: the search loses itself in what the trait asks
pub returns : goal.returns
returns c =
    let e = c.callers_of_all.ensures in
    record {
      reply = e.reply;
      same = e.same;
      counts = e.counts;
      armed = e.armed;
      stood = e.stood;
      lasts = e.lasts;
      site = e.site;
    }
