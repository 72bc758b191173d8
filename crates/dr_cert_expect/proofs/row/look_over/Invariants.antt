use Rattle.std.proofs.Common.{take}
use Rattle.dr_cert_expect.proofs.Covering.{AreLookedAt}
use Rattle.dr_cert_expect.proofs.row.look_over.Given as goal

-- what is known when the lines so far were looked at
abbrev pub invariant-loop-line : goal.invariant-loop-line
invariant-loop-line l = AreLookedAt l.fn.sealed.plan l.fn.row (take l.line-index l.fn.sealed.certificate.lines) l.found
