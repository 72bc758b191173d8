use Rattle.dr_store_calls.proofs.Pasts.{sealings_keep_the_book}
use Rattle.dr_store.proofs.laws.a_sealing_leaves_the_book.Goals as goal

pub returns : goal.returns
returns g c = λ before past n part base db it. record {
  book = sealings_keep_the_book past it.last part base db it.sealed;
  counted = it.ledger.ledger.counted;
}
