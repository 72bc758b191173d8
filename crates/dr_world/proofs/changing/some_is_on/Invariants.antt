use Rattle.std.proofs.Common.{◌≡◌}
use Rattle.std.specs.List.{list_any}
use Rattle.dr_world.specs.Adopted.{is_on_at, some_is_on}
use Rattle.dr_world.proofs.changing.some_is_on.Given as goal

-- none of those before: one of the numbers that are left is as good as one of all
abbrev pub invariant-loop-link : goal.invariant-loop-link
invariant-loop-link g l =
    list_any (is_on_at l.nodes l.wires) l.link-iterator ≡ some_is_on l.nodes l.wires
