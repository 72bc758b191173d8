use Rattle.std.proofs.Common.{◌↔◌, take}
use Rattle.dr_base.specs.Texts.{Text}
use Rattle.dr_route.specs.Names.{HasName}
use Rattle.dr_plan_model.specs.Walks.{FlowsAmong}
use Rattle.dr_plan_model.proofs.sending.flow_targets.Given as goal

abbrev pub invariant-loop-flow : goal.invariant-loop-flow
invariant-loop-flow l = (name : Text) → HasName l.names name ↔ FlowsAmong (take l.flow-index l.flows) l.site l.key name
