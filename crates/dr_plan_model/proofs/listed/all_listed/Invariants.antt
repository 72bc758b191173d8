use Rattle.std.proofs.Common.{take}
use Rattle.dr_plan_model.specs.Listings.{AreListedBy}
use Rattle.dr_plan_model.proofs.listed.all_listed.Given as goal

abbrev pub invariant-loop-flow : goal.invariant-loop-flow
invariant-loop-flow l = AreListedBy (take l.flow-index l.flows) l.all.items
