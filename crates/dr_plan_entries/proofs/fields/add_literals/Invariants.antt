use Rattle.std.proofs.Common.{◌≡◌, ◌++◌, map, take}
use Rattle.std.specs.Prelude.{All}
use Rattle.dr_route.specs.declared.cell.OwnedField.TheVariants as part
use Rattle.dr_plan_entries.specs.Entering.{HasItsText, part_of}
use Rattle.dr_plan_entries.proofs.fields.add_literals.Given as goal

abbrev pub invariant-loop-literal : goal.invariant-loop-literal
invariant-loop-literal l = record {
  parts : map part_of l.shown.items ≡ map part_of l.initial.shown.items ++ map (λ t. part.Literal t) (take l.literal-index l.literals);
  texts : All HasItsText l.initial.shown.items → All HasItsText l.shown.items;
}
