use Rattle.std.proofs.Common.{Contains, take}
use Rattle.std.specs.Prelude.{◌↔◌}
use Rattle.dr_base.specs.Texts.{Text}
use Rattle.dr_route.specs.Names.{HasName}
use Rattle.dr_cert_diff.proofs.comparing.without.Given as goal

-- those of the names so far that aren't in the set
abbrev pub invariant-loop-name : goal.invariant-loop-name
invariant-loop-name l = (other : Text) → HasName l.left other ↔ (Contains (take l.name-index l.fn.names) other × (Contains l.fn.set other → ⊥))
