use Rattle.dr_store_schema.specs.Books.{lines_in}
use Rattle.dr_store_schema.proofs.laws.lines_stand_alone.Goals as goal

pub returns : goal.returns
returns c = λ old new journal targets i. lines_in (targets i) (journal i)
