use Rattle.dr_run_answer.proofs.Lines.{SoFar}
use Rattle.dr_run_answer.proofs.noted.recents_of.Given as goal

abbrev pub invariant-loop-one : goal.invariant-loop-one
invariant-loop-one l = SoFar l.now l.minutes l.one-index l.lines.items
