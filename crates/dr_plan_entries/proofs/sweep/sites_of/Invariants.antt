use Rattle.std.proofs.Common.{take, Contains}
use Rattle.dr_route.specs.Names.{HasName}
use Rattle.dr_plan_model.specs.declared.plan.Flow.{Flow}
use Rattle.dr_plan_entries.proofs.sweep.sites_of.Given as goal

abbrev pub invariant-loop-flow : goal.invariant-loop-flow
invariant-loop-flow l = (flow : Flow) → Contains (take l.flow-index l.flows) flow → HasName l.names flow.at
