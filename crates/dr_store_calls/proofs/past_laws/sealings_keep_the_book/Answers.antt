use Rattle.dr_store_calls.proofs.Pasts.{sealings_keep_the_book}
use Rattle.dr_store_calls.proofs.past_laws.sealings_keep_the_book.Goals as goal

pub returns : goal.returns
returns c = sealings_keep_the_book
