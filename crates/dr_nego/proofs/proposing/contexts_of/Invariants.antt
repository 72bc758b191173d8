use Rattle.std.proofs.Common.{◌≡◌, map, take}
use Rattle.dr_nego.specs.Proposing.{context_of}
use Rattle.dr_nego.proofs.proposing.contexts_of.Given as goal

abbrev pub invariant-loop-hop : goal.invariant-loop-hop
invariant-loop-hop l = l.contexts ≡ map context_of (take l.hop-index l.hops)
