use Rattle.std.specs.Prelude.{Contains, take}
use Rattle.dr_base.specs.Texts.{Text}
use Rattle.dr_world_model.specs.Events.{HasNode}
use Rattle.dr_world.proofs.changing.are_nodes.Given as goal

-- those before are nodes
abbrev pub invariant-loop-name : goal.invariant-loop-name
invariant-loop-name l =
    (name : Text) → Contains (take l.name-index l.names) name → HasNode l.plan name
