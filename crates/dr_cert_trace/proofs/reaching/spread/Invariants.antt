use Rattle.dr_cert_trace.proofs.Spreading.{AreAfter}
use Rattle.dr_cert_trace.proofs.reaching.spread.Given as goal

-- what the walks so far found
abbrev pub invariant-loop-done : goal.invariant-loop-done
invariant-loop-done l = AreAfter l.fn.plan l.fn.site l.fn.key l._done l.front.items l.nodes l.keeps
