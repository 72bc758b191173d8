use Rattle.std.proofs.Common.{◌≡◌, take, map}
use Rattle.dr_plan_expand.specs.Meanings.{row_of}
use Rattle.dr_plan_expand.proofs.meant.rows_with.Given as goal

abbrev pub invariant-loop-class : goal.invariant-loop-class
invariant-loop-class l = l.rows.items ≡ map (row_of l.from l.syntaxes) (take l.class-index l.classes)
