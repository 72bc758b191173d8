use Rattle.std.proofs.Common.{take, Some}
use Rattle.dr_cert.specs.Walking.{AfterTargets}
use Rattle.dr_cert.proofs.walker.Walker.mark_targets.Given as goal

abbrev pub invariant-loop-to : goal.invariant-loop-to
invariant-loop-to l = AfterTargets l.fn.self l.self l.stop (take l.to-index l.targets) (Some l.rank)
