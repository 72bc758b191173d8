use Rattle.std.proofs.Common.{take}
use Rattle.dr_cert_lint.specs.Uses.{ServesLine}
use Rattle.dr_cert_lint.proofs.Looking.{NoneOf}
use Rattle.dr_cert_lint.proofs.uses.is_used.Given as goal

abbrev pub invariant-loop-line : goal.invariant-loop-line
invariant-loop-line l = NoneOf (ServesLine l.fn.name l.fn.part) (take l.line-index l.fn.sealed.certificate.lines)
