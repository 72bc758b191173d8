use Rattle.std.proofs.Common.{◌∙◌}
use Rattle.dr_plan_expand.specs.Spelling.{node_text}
use Rattle.dr_plan_expand.proofs.Grown.{grown}
use Rattle.dr_plan_expand.proofs.spell.add_nodes.Goals as goal

pub loop-node-preserved : goal.loop-node-preserved
loop-node-preserved c =
    grown node_text c.args.nodes.now c.loop-node.node-index c.node-item.result c.args.out.now.items c.loop-node.out.items _ _ c.loop-node-test.true c.node-item.is c.loop-node.invariant
    (c.as_slice.ensures.value ∙ c.in_ok-text.ensures) c.in_ok-extend_from_slice.ensures.items
