use Rattle.std.proofs.Common.{◌↔◌, ◌⊎◌, Contains, take}
use Rattle.dr_base.specs.Texts.{Text}
use Rattle.dr_route.specs.Names.{HasName}
use Rattle.dr_route.proofs.names.add_names.Given as goal

abbrev pub invariant-loop-name : goal.invariant-loop-name
invariant-loop-name l = (m : Text) → HasName l.names m ↔ (HasName l.initial.names m ⊎ Contains (take l.name-index l.more) m)
