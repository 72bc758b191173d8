use Rattle.std.proofs.Common.{◌≡◌}
use Rattle.dr_node.proofs.Mapped.{so_far}
use Rattle.dr_node.proofs.links.Links.others.Given as goal

abbrev pub invariant-loop-number : goal.invariant-loop-number
invariant-loop-number l = l.count ≡ so_far l.link l.yielded
