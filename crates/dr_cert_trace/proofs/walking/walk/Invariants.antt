use Rattle.std.proofs.Common.{take}
use Rattle.dr_cert_trace.proofs.Walked.{IsSoFar}
use Rattle.dr_cert_trace.proofs.walking.walk.Given as goal

-- what was found at the stages so far
abbrev pub invariant-loop-stage : goal.invariant-loop-stage
invariant-loop-stage l = IsSoFar l.fn.plan l.fn.site l.fn.key (take l.stage-index l.fn.stages) l.pairs l.keeps
