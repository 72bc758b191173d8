use Rattle.std.proofs.Common.{Contains, take}
use Rattle.std.specs.Prelude.{All}
use Rattle.dr_cert_expect.proofs.names.first_inside.Given as goal

-- the names so far aren't in the set
abbrev pub invariant-loop-name : goal.invariant-loop-name
invariant-loop-name l = All (λ name. Contains l.fn.set name → ⊥) (take l.name-index l.fn.names)
