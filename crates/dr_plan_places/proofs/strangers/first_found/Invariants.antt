use Rattle.std.proofs.Common.{take, All}
use Rattle.dr_plan_places.specs.Firsts.{HasNone}
use Rattle.dr_plan_places.proofs.strangers.first_found.Given as goal

abbrev pub invariant-loop-index : goal.invariant-loop-index
invariant-loop-index g l = All (λ value. HasNone (g.H.Hunt.is_found l.hunt value)) (take l.index l.values)
