use Rattle.std.proofs.Common.{◌≡◌, ◌++◌}
use Rattle.std.specs.BTreeMap as tree
use Rattle.dr_world.proofs.listing.names_in.Given as goal

-- those copied so far, and those that are left
abbrev pub invariant-loop-name : goal.invariant-loop-name
invariant-loop-name g l = l.names.items ++ l.name-iterator ≡ tree.keys l.nodes
