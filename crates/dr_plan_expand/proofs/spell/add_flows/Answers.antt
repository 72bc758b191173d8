use Rattle.std.proofs.Common.{◌∙◌}
use Rattle.dr_plan_expand.specs.Spelling.{flow_text}
use Rattle.dr_plan_expand.proofs.Grown.{grown}
use Rattle.dr_plan_expand.proofs.spell.add_flows.Goals as goal

pub loop-flow-preserved : goal.loop-flow-preserved
loop-flow-preserved c =
    grown flow_text c.args.flows.now c.loop-flow.flow-index c.flow-item.result c.args.out.now.items c.loop-flow.out.items _ _ c.loop-flow-test.true c.flow-item.is c.loop-flow.invariant
    (c.as_slice.ensures.value ∙ c.in_ok-text.ensures) c.in_ok-extend_from_slice.ensures.items
