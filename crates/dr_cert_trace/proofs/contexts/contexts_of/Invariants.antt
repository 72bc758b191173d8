use Rattle.std.proofs.Common.{take}
use Rattle.dr_cert.specs.Conditions.{AreHopsInOrder}
use Rattle.dr_cert_trace.specs.Found.{Carries}
use Rattle.dr_cert_trace.proofs.Carried.{Are}
use Rattle.dr_cert_trace.proofs.contexts.contexts_of.Given as goal

-- of the hops so far those over which the key goes, in their order
abbrev pub invariant-loop-hop : goal.invariant-loop-hop
invariant-loop-hop l = Are (Carries l.fn.key l.fn.pairs) (take l.hop-index l.fn.hops) l.own.items × (AreHopsInOrder l.fn.hops → AreHopsInOrder l.own.items)
