use Rattle.dr_plan_core.proofs.GoodNames.{name_seen, name_again, names_seen}
use Rattle.dr_plan_core.proofs.names.names_of.Goals as goal

pub returns-then-not-branch-clause-names : goal.returns-then-not-branch-clause-names
returns-then-not-branch-clause-names c = name_again c.loop-node.seen c.args.nodes.now c.loop-node.node-index c.node-item.result c.in_ok-clone.field-0 c.in_ok-insert.field-0 c.loop-node-test.true c.node-item.is
    c.in_ok-clone.ensures c.loop-node.invariant c.in_ok-insert.ensures.added c.if-not-branch.true

pub loop-node-preserved : goal.loop-node-preserved
loop-node-preserved c = name_seen c.loop-node.seen c.insert.new.self c.args.nodes.now c.loop-node.node-index c.node-item.result c.in_ok-clone.field-0 c.in_ok-insert.field-0 c.loop-node-test.true
    c.node-item.is c.in_ok-clone.ensures c.loop-node.invariant c.in_ok-insert.ensures.updates c.in_ok-insert.ensures.added c.if-not-branch.false

pub returns-clause-names : goal.returns-clause-names
returns-clause-names c = names_seen c.loop-node.seen c.args.nodes.now c.loop-node.node-index c.loop-node-test.false c.loop-node.invariant
