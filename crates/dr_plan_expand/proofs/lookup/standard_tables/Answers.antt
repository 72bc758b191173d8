use Rattle.std.proofs.Common.{refl}
use Rattle.dr_plan_expand.proofs.lookup.standard_tables.Goals as goal

pub returns : goal.returns
returns c = record {
  classes = rw (c.classes_1.ensures, c.classes_2.ensures, c.classes_3.ensures, c.classes_4.ensures, c.classes_5.ensures) refl;
  usual = rw (c.usual_sets_1.ensures, c.usual_sets_2.ensures, c.usual_sets_3.ensures, c.usual_sets_4.ensures, c.usual_sets_5.ensures) refl;
  syntaxes = rw c.syntaxes_1.ensures refl;
}
