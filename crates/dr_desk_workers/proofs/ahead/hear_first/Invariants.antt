use Rattle.dr_desk_workers.proofs.Waited.{Waited}
use Rattle.dr_desk_workers.proofs.ahead.hear_first.Given as goal

abbrev pub invariant-loop-piece : goal.invariant-loop-piece
invariant-loop-piece g l = Waited g.K.Link.hears l.initial.link l.text.items l.link
