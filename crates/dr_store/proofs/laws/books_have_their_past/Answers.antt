use Rattle.dr_store.proofs.Wholes.{books_are_whole}
use Rattle.dr_store.proofs.laws.books_have_their_past.Goals as goal

pub returns : goal.returns
returns c = books_are_whole
