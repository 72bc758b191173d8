use Rattle.std.proofs.Common.{◌≡◌}
use Rattle.std.specs.List.{list_any}
use Rattle.dr_world.specs.Forgotten.{is_under_way, pends_here}
use Rattle.dr_world.proofs.forgetting.is_under_way.Given as goal

-- none of those before: one of the numbers that are left is as good as one of all
abbrev pub invariant-loop-number : goal.invariant-loop-number
invariant-loop-number g l =
    list_any (pends_here l.nodes l.wires l.name l.uid) l.number-iterator
    ≡ is_under_way l.nodes l.wires l.name l.uid
