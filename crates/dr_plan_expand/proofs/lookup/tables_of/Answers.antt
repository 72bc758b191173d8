use Rattle.std.proofs.Common.{refl}
use Rattle.dr_plan_expand.proofs.lookup.tables_of.Goals as goal

pub returns : goal.returns
returns c = rw (c.requires.classes, c.requires.usual, c.requires.syntaxes, c.as_slice.ensures, c.as_slice-2.ensures) refl
