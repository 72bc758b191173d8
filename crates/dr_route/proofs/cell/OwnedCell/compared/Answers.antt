use Rattle.std.proofs.Common.{refl}
use Rattle.dr_route.proofs.cell.OwnedCell.compared.Goals as goal

pub returns : goal.returns
returns c = rw (c.then-3.ensures, c.then-2.ensures, c.then.ensures, c.compared_part.ensures, c.compared_part-2.ensures, c.cmp.ensures, c.cmp-2.ensures, ← c.other.view_is) refl
