use Rattle.std.proofs.Common.{◌∙◌}
use Rattle.dr_plan_core.specs.Reading.{IsTypable}
use Rattle.dr_plan_core.specs.Spelling.{written_node}
use Rattle.dr_plan_core.proofs.Typing.{all_left, next_known, one_less, none_left, no_items}
use Rattle.dr_plan_core.proofs.typed.nodes_of.Goals as goal

pub loop-node-init : goal.loop-node-init
loop-node-init c = all_left written_node IsTypable c.args.nodes _ _ c.new-typed.ensures.items (c.into_iter-node-iterator.ensures.into_iter_gives.0 ∙ c.into_vec-node-items.ensures) c.requires

pub loop-node-preserved : goal.loop-node-preserved
loop-node-preserved c =
    rw c.in_ok-push.ensures.items (one_less written_node IsTypable c.args.nodes c.loop-node.typed.items _ _ c.in_ok-node_of.field-0 c.in-Some.node c.loop-node.invariant c.in-Some.ensures.steps.0 c.in_ok-node_of.ensures)

pub node_of-requires : goal.node_of-requires
node_of-requires c = next_known written_node IsTypable c.args.nodes c.loop-node.typed.items _ _ c.in-Some.node c.loop-node.invariant c.in-Some.ensures.steps.0

pub returns-clause-nodes : goal.returns-clause-nodes
returns-clause-nodes c = rw c.from_vec.ensures (none_left written_node IsTypable c.args.nodes c.loop-node.typed.items _ c.loop-node.invariant (no_items _ _ c.loop-node.node-iterator.rest.ok.0 c.in-None.ensures.steps.0))
