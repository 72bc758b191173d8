use Rattle.std.specs.BTreeMap as tree
use Rattle.dr_base.specs.Texts.{text_cmp}
use Rattle.dr_world.proofs.Called.{there}
use Rattle.dr_world.proofs.Listed.{are_same, lists_there, nodes_same, unlisted}
use Rattle.dr_world.proofs.listing.list_at.Goals as goal

pub returns-in_default-clause-lists : goal.returns-in_default-clause-lists
returns-in_default-clause-lists g c = λ all. unlisted c.args.nodes.now c.args.name.now c.in_default.ensures.value

pub returns-in_default-clause-same : goal.returns-in_default-clause-same
returns-in_default-clause-same g c = nodes_same c.args.nodes.now c.get_mut.follows.lender-at-none c.get_mut.follows.holds-at-none

pub returns-in-Ok-clause-lists : goal.returns-in-Ok-clause-lists
returns-in-Ok-clause-lists g c =
    lists_there c.args.nodes.now (c.get_mut.follows.lender c.list.new.node) c.args.name.now c.in-Some.node.now c.list.new.node c.in-Some.ensures.value
    ((c.get_mut.follows.holds c.list.new.node).3 (there (tree.get text_cmp c.args.nodes.now c.args.name.now) c.in-Some.node.now c.in-Some.ensures.value)).0 c.in-Ok.listing c.in-Ok.ensures.lists

pub returns-in-Ok-clause-same : goal.returns-in-Ok-clause-same
returns-in-Ok-clause-same g c =
    are_same c.args.nodes.now (c.get_mut.follows.lender c.list.new.node) c.args.name.now c.in-Some.node.now c.list.new.node c.in-Some.ensures.value
    ((c.get_mut.follows.holds c.list.new.node).3 (there (tree.get text_cmp c.args.nodes.now c.args.name.now) c.in-Some.node.now c.in-Some.ensures.value)).0 c.list.ensures.same

pub returns-in-Err-clause-same : goal.returns-in-Err-clause-same
returns-in-Err-clause-same g c =
    are_same c.args.nodes.now (c.get_mut.follows.lender c.list.new.node) c.args.name.now c.in-Some.node.now c.list.new.node c.in-Some.ensures.value
    ((c.get_mut.follows.holds c.list.new.node).3 (there (tree.get text_cmp c.args.nodes.now c.args.name.now) c.in-Some.node.now c.in-Some.ensures.value)).0 c.list.ensures.same
