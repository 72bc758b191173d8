use Rattle.std.proofs.Common.{◌≡◌, map, take}
use Rattle.dr_run_control.proofs.reads.NodeReader.queues_of.Given as goal

abbrev pub invariant-loop-hop : goal.invariant-loop-hop
invariant-loop-hop g l =
    map (λ q. q.dest.now) l.queues.items ≡ map (λ hop. hop.dest) (take l.hop-index l.hops)
