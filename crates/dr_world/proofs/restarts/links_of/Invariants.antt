use Rattle.std.proofs.Common.{◌≡◌, ◌++◌, filter}
use Rattle.std.specs.Ordering.{nat_cmp}
use Rattle.std.specs.BTreeMap as tree
use Rattle.dr_world.specs.Restarted.{is_end}
use Rattle.dr_world.proofs.restarts.links_of.Given as goal

-- those found so far, and those among the numbers that are left
abbrev pub invariant-loop-number : goal.invariant-loop-number
invariant-loop-number l = l.numbers.items ++ filter (λ n. is_end l.name (tree.get nat_cmp l.wires n)) l.number-iterator ≡ filter (λ n. is_end l.name (tree.get nat_cmp l.wires n)) (tree.keys l.wires)
