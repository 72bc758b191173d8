use Rattle.std.proofs.Common.{ℕ, ◌<◌, get_or, Contains}
use Rattle.dr_plan_sound.specs.declared.certificate.Line.{Line}
use Rattle.dr_cert.proofs.verify.are_indexed.Given as goal

abbrev pub invariant-loop-line : goal.invariant-loop-line
invariant-loop-line l = (k : ℕ) (d : Line) → k < l.line-index → Contains l.index (get_or l.lines k d)
