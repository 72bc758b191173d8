use Rattle.std.proofs.Common.{◌≡◌, min, take}
use Rattle.dr_run_answer.specs.Intakes.{most}
use Rattle.dr_run_answer.specs.Responses.{kinds_of}
use Rattle.dr_run_answer.proofs.responses.kinds_of.Given as goal

abbrev pub invariant-loop-line : goal.invariant-loop-line
invariant-loop-line l = l.count ≡ min most (kinds_of l.caller (take l.line-index l.lines))
