use Rattle.dr_plan_places.proofs.ByName.{Apart}
use Rattle.dr_plan_places.proofs.nodes.twins_in.Given as goal

abbrev pub invariant-loop-late : goal.invariant-loop-late
invariant-loop-late l = Apart l.fn.nodes l.late
