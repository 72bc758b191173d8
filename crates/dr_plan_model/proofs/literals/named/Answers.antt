use Rattle.std.proofs.Common.{◌≡◌, ◌∙◌, take, arith, List}
use Rattle.std.proofs.lemmas.List.{take_all}
use Rattle.std.specs.Prelude.{flat_map}
use Rattle.dr_base.specs.Texts.{Text}
use Rattle.dr_route.specs.Names.{HasName}
use Rattle.dr_plan_model.specs.declared.plan.Node.{Node}
use Rattle.dr_plan_model.specs.Naming.{named_by_rules, named_by_flows}
use Rattle.dr_plan_model.proofs.Gathered.{flat_map-one_more, gathered, gathered_all}
use Rattle.dr_plan_model.proofs.literals.named.Goals as goal

pub loop-node-preserved : goal.loop-node-preserved
loop-node-preserved c =
    let f : Node → List Text = λ n. named_by_rules c.args.attribute n.rules in
    gathered (HasName c.new-names.result) (HasName c.loop-node.names) (HasName c.add_rules.new.names)
    (flat_map f (take c.loop-node.node-index c.nodes-node-items.result.now)) (f c.node-item.result) _
    (flat_map-one_more f c.nodes-node-items.result.now c.loop-node.node-index c.node-item.result c.loop-node-test.true c.node-item.is)
    (rw c.as_slice.ensures at c.in_ok-add_rules.ensures) c.loop-node.invariant

pub returns-clause-same : goal.returns-clause-same
returns-clause-same c =
    let f : Node → List Text = λ n. named_by_rules c.args.attribute n.rules in
    let all : take c.loop-node.node-index c.nodes-node-items.result.now ≡ c.args.plan.now.nodes = take_all _ _ (omega arith) ∙ c.nodes-node-items.ensures.same in
    gathered_all c.new-names.result.keys c.loop-node.names.keys c.add_flows.new.names.keys c.in_ok-literals.literals
    (flat_map f c.args.plan.now.nodes) (named_by_flows c.args.attribute c.args.plan.now.flows)
    c.new-names.ensures.empty
    (λ t. rw all at (c.loop-node.invariant t))
    (rw c.flows.ensures.same at c.in_ok-add_flows.ensures)
    c.in_ok-literals.ensures.same
