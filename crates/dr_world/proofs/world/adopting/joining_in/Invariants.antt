use Rattle.std.specs.Prelude.{◌≡◌, ◌↔◌, Contains, None, filter, take}
use Rattle.std.specs.BTreeMap as tree
use Rattle.dr_base.specs.Texts.{Text, text_cmp}
use Rattle.dr_world.specs.Adopted.{is_absent}
use Rattle.dr_world.proofs.world.adopting.joining_in.Given as goal

-- those found so far are the names before that no node has, in their order
abbrev pub invariant-loop-name : goal.invariant-loop-name
invariant-loop-name g l =
    ((name : Text)
    → Contains l.names.items name
    ↔ (Contains (take l.name-index l.name-items) name × (tree.get text_cmp l.nodes name ≡ None)))
    × (l.names.items ≡ filter (is_absent l.nodes) (take l.name-index l.name-items))
