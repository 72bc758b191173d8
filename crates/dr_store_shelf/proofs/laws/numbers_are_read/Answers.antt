use Rattle.std.proofs.Common.{◌*◌, refl}
use Rattle.dr_store_shelf.proofs.CellLemmas.{number_written}
use Rattle.dr_store_shelf.proofs.laws.numbers_are_read.Goals as goal

pub returns : goal.returns
returns c = λ numbers i fits low. number_written numbers i (i * 8) refl fits low
