use Rattle.std.proofs.Common.{take}
use Rattle.dr_word_list.proofs.Queueing.{AreQueued}
use Rattle.dr_word_list.proofs.summary.put_queues.Given as goal

abbrev pub invariant-loop-hop : goal.invariant-loop-hop
invariant-loop-hop l = AreQueued l.fn.rows (take l.hop-index l.fn.hops) l.initial.out.items l.out.items
