use Rattle.std.proofs.Common.{◌≡◌, ◌++◌, take}
use Rattle.std.specs.Prelude.{map}
use Rattle.dr_route.specs.declared.cell.OwnedField.TheVariants as field
use Rattle.dr_cert_diff.proofs.parts.all_parts.Given as goal

abbrev pub invariant-loop-prefix : goal.invariant-loop-prefix
invariant-loop-prefix l = l.parts.items ≡ map (λ t. field.Literal t) l.fn.values ++ map (λ t. field.Prefix t) (take l.prefix-index l.fn.prefixes)
