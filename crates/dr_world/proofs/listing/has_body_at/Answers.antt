use Rattle.std.specs.BTreeMap as tree
use Rattle.dr_base.specs.Texts.{text_cmp}
use Rattle.dr_world.proofs.Called.{there}
use Rattle.dr_world.proofs.Listed.{are_same, has_there, nodes_same, no_bodies, same_node}
use Rattle.dr_world.proofs.listing.has_body_at.Goals as goal

pub returns-in_default-clause-has : goal.returns-in_default-clause-has
returns-in_default-clause-has g c = λ all. no_bodies c.args.nodes.now c.args.name.now c.args.uid.now c.in_default.ensures.value

pub returns-in_default-clause-same : goal.returns-in_default-clause-same
returns-in_default-clause-same g c = nodes_same c.args.nodes.now c.get_mut.follows.lender-at-none c.get_mut.follows.holds-at-none

pub returns-in-Ok-clause-has : goal.returns-in-Ok-clause-has
returns-in-Ok-clause-has g c =
    has_there c.args.nodes.now (c.get_mut.follows.lender c.has_body.new.self) c.args.name.now c.in-Some.node.now c.has_body.new.self c.in-Some.ensures.value
    ((c.get_mut.follows.holds c.has_body.new.self).3 (there (tree.get text_cmp c.args.nodes.now c.args.name.now) c.in-Some.node.now c.in-Some.ensures.value)).0 c.args.uid.now c.in-Ok.has c.in-Ok.ensures.reply

pub returns-in-Ok-clause-same : goal.returns-in-Ok-clause-same
returns-in-Ok-clause-same g c =
    are_same c.args.nodes.now (c.get_mut.follows.lender c.has_body.new.self) c.args.name.now c.in-Some.node.now c.has_body.new.self c.in-Some.ensures.value
    ((c.get_mut.follows.holds c.has_body.new.self).3 (there (tree.get text_cmp c.args.nodes.now c.args.name.now) c.in-Some.node.now c.in-Some.ensures.value)).0 (same_node c.in-Some.node.now c.has_body.new.self c.has_body.ensures.reads c.has_body.ensures.rest)

pub returns-in-Err-clause-same : goal.returns-in-Err-clause-same
returns-in-Err-clause-same g c =
    are_same c.args.nodes.now (c.get_mut.follows.lender c.has_body.new.self) c.args.name.now c.in-Some.node.now c.has_body.new.self c.in-Some.ensures.value
    ((c.get_mut.follows.holds c.has_body.new.self).3 (there (tree.get text_cmp c.args.nodes.now c.args.name.now) c.in-Some.node.now c.in-Some.ensures.value)).0 (same_node c.in-Some.node.now c.has_body.new.self c.has_body.ensures.reads c.has_body.ensures.rest)
