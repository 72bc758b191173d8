use Rattle.std.proofs.Common.{◌-◌, length}
use Rattle.dr_cert.specs.Walking.{IsWalkedTo}
use Rattle.dr_cert.proofs.walker.Walker.walk.Given as goal

abbrev pub invariant-loop-next : goal.invariant-loop-next
invariant-loop-next l = IsWalkedTo l.fn.self l.self l.survey l.next

abbrev pub decreases-loop-next : goal.decreases-loop-next
decreases-loop-next l = length l.fn.self.lines.now - l.next
