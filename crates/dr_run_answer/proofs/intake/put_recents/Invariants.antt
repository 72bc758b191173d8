use Rattle.std.proofs.Common.{◌≡◌, ◌++◌, take, flat_map}
use Rattle.dr_run_answer.specs.Answers.{recent_line}
use Rattle.dr_run_answer.proofs.intake.put_recents.Given as goal

abbrev pub invariant-loop-recent : goal.invariant-loop-recent
invariant-loop-recent l =
    l.out.items ≡ l.initial.out.items ++ flat_map recent_line (take l.recent-index l.recents)
