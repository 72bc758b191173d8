use Rattle.std.proofs.Common.{◌≡◌, ◌++◌, take, flat_map}
use Rattle.dr_run_answer.specs.Answers.{from_line}
use Rattle.dr_run_answer.proofs.instance.put_froms.Given as goal

abbrev pub invariant-loop-caller : goal.invariant-loop-caller
invariant-loop-caller l = l.out.items ≡ l.initial.out.items ++ flat_map from_line (take l.caller-index l.callers)
