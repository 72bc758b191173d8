use Rattle.std.proofs.Common.{subst, sym, Contains}
use Rattle.dr_store_shelf.specs.Cells.{extent_in}
use Rattle.dr_store_shelf.proofs.in_file.InFile.restart.Goals as goal

pub returns-clause-keeps : goal.returns-clause-keeps
returns-clause-keeps g c = λ cell bytes used stands. (
  (used.0, subst (λ xs. Contains xs (extent_in cell)) (sym c.in_ok-left.ensures.listed) used.1),
  (c.in_ok-left.ensures.keeps (extent_in cell) bytes stands.0, stands.1),
)
