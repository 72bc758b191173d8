use Rattle.dr_store.proofs.Writes.{arms, with_shelf}
use Rattle.dr_store.proofs.ledger.SqlLedgerLedger.arrive.Goals as goal

-- by hand: the search loses itself in what the trait asks
pub returns : goal.returns
returns g c =
    let e = c.arrive_in.ensures in
    let r = c.arrive_in.result in
    record {
      reply = λ safe. ((e.wrote safe.1).answers safe.0).0;
      bodies = λ safe. ((e.wrote safe.1).answers safe.0).1;
      loses_none = λ safe. ((e.wrote safe.1).answers safe.0).2;
      counts = e.counts;
      armed = λ safe. arms _ r;
      stood = λ safe. ((e.wrote safe.1).stood safe.0, e.clean safe.1);
      lasts = with_shelf r _ _ _ _ _ _ e.clean (λ clean. (e.wrote clean).lasts);
      site = e.site;
    }
