use Rattle.std.proofs.Common.{[], codes, arith}
use Rattle.dr_store_sealed.proofs.LawLemmas.{entry_size}
use Rattle.dr_store_sealed.proofs.figures.where_the_next_file_begins.Goals as goal

pub returns-clause-at : goal.returns-clause-at
returns-clause-at c = omega (arith, entry_size [] (codes "a"))
