use Rattle.std.proofs.Common.{◌≡◌, ◌++◌, take, flat_map}
use Rattle.dr_run_answer.specs.Answers.{brought_of}
use Rattle.dr_run_answer.proofs.intake.put_each_brought.Given as goal

abbrev pub invariant-loop-brought : goal.invariant-loop-brought
invariant-loop-brought l =
    l.out.items ≡ l.initial.out.items ++ flat_map brought_of (take l.brought-index l.callers)
