use Rattle.std.proofs.Common.{refl}
use Rattle.dr_store.proofs.Writes.{with_shelf}
use Rattle.dr_store.proofs.ledger.SqlLedgerSeals.seal.Goals as goal

-- by hand: the search loses itself in what the trait asks
pub returns : goal.returns
returns g c =
    let e = c.seal_in.ensures in
    record {
      same = λ safe. e.same safe.1 safe.0;
      counts = e.counts;
      armed = refl;
      stood = λ safe. (e.stood safe.1 safe.0, e.clean safe.1);
      lasts = with_shelf c.seal_in.result _ _ _ _ _ _ e.clean e.lasts;
      site = e.site;
    }
