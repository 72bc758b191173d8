use Rattle.std.proofs.Common.{take}
use Rattle.dr_cert_trace.proofs.Gathering.{AreSoFar}
use Rattle.dr_cert_trace.proofs.stages.unsorted_stages.Given as goal

-- the places of the lines so far to which the key comes
abbrev pub invariant-loop-line : goal.invariant-loop-line
invariant-loop-line l = AreSoFar l.fn.sealed.plan l.fn.key (take l.line-index l.fn.sealed.certificate.lines) l.stages.items
