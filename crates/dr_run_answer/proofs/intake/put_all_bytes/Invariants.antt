use Rattle.std.proofs.Common.{◌≡◌, ◌++◌, take, flat_map}
use Rattle.dr_run_answer.specs.Answers.{bytes_of}
use Rattle.dr_run_answer.proofs.intake.put_all_bytes.Given as goal

abbrev pub invariant-loop-brought : goal.invariant-loop-brought
invariant-loop-brought l =
    l.out.items ≡ l.initial.out.items ++ flat_map bytes_of (take l.brought-index l.callers)
