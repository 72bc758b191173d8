use Rattle.std.proofs.Common.{◌≡◌, take}
use Rattle.std.specs.Prelude.{map}
use Rattle.dr_route.specs.declared.cell.OwnedField.TheVariants as field
use Rattle.dr_cert_diff.proofs.parts.single_parts.Given as goal

abbrev pub invariant-loop-value : goal.invariant-loop-value
invariant-loop-value l = l.parts.items ≡ map (λ t. field.Literal t) (take l.value-index l.fn.values)
