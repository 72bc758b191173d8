use Rattle.dr_store.proofs.Wholes.{none_sealed}
use Rattle.dr_store.proofs.laws.tables_alone_have_the_whole_book.Goals as goal

pub returns : goal.returns
returns c = none_sealed
