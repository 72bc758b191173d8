use Rattle.dr_store_shelf.proofs.CellLemmas.{says}
use Rattle.dr_store_shelf.proofs.laws.cells_say_what_was_written.Goals as goal

pub returns : goal.returns
returns c = λ key at body sums are fits. says key at body sums are fits
