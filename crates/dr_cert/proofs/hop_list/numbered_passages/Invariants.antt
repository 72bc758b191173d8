use Rattle.std.proofs.Common.{take}
use Rattle.dr_cert.specs.HopSets.{AreTheNumbered}
use Rattle.dr_cert.proofs.hop_list.numbered_passages.Given as goal

abbrev pub invariant-loop-hop : goal.invariant-loop-hop
invariant-loop-hop l = AreTheNumbered (take l.hop-index l.hops) l.all
