use Rattle.std.proofs.Common.{◌≡◌, take}
use Rattle.dr_run_open.specs.Hops.{hops_from}
use Rattle.dr_run_open.proofs.hops.hops_of.Given as goal

abbrev pub invariant-loop-node : goal.invariant-loop-node
invariant-loop-node l = l.hops.items ≡ hops_from l.site (take l.node-index l.plan.nodes)
