use Rattle.std.proofs.Common.{◌≡◌, ◌++◌, take, flat_map}
use Rattle.dr_run_answer.specs.Responses.{response_figure}
use Rattle.dr_run_answer.proofs.responses.put_each_response.Given as goal

abbrev pub invariant-loop-line : goal.invariant-loop-line
invariant-loop-line l =
    l.out.items ≡ l.initial.out.items ++ flat_map response_figure (take l.line-index l.lines)
