use Rattle.std.proofs.Common.{◌↔◌, take}
use Rattle.dr_base.specs.Texts.{Text}
use Rattle.dr_route.specs.Names.{HasName}
use Rattle.dr_plan_model.specs.Walks.{FlowsAmong}
use Rattle.dr_plan_model.proofs.entering.targets_by.Given as goal

abbrev pub invariant-loop-place : goal.invariant-loop-place
invariant-loop-place l = (name : Text) → HasName l.names name ↔ FlowsAmong (take l.place l.flows) l.site l.key name
