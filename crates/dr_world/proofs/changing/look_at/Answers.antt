use Rattle.std.specs.BTreeMap as tree
use Rattle.dr_base.specs.Texts.{text_cmp}
use Rattle.dr_world.proofs.Called.{there}
use Rattle.dr_world.proofs.Listed.{are_same, same_node}
use Rattle.dr_world.proofs.Adopting.{looked_at}
use Rattle.dr_world.proofs.changing.look_at.Goals as goal

pub returns-in-Ok-clause-looks : goal.returns-in-Ok-clause-looks
returns-in-Ok-clause-looks g c = looked_at c.args.next.now.plan c.args.nodes.now
    (c.get_mut.follows.lender c.unfit.new.self) c.args.name.now c.in-Some.node.now c.unfit.new.self
    c.in-Some.ensures.value
    ((c.get_mut.follows.holds c.unfit.new.self).3
    (there (tree.get text_cmp c.args.nodes.now c.args.name.now) c.in-Some.node.now
    c.in-Some.ensures.value)).0 c.in-Ok.found
    (same_node c.in-Some.node.now c.unfit.new.self c.unfit.ensures.reads c.unfit.ensures.rest) c.in-Ok.ensures.reply

pub returns-in-Err-clause-same : goal.returns-in-Err-clause-same
returns-in-Err-clause-same g c = are_same c.args.nodes.now
    (c.get_mut.follows.lender c.unfit.new.self) c.args.name.now c.in-Some.node.now c.unfit.new.self
    c.in-Some.ensures.value
    ((c.get_mut.follows.holds c.unfit.new.self).3
    (there (tree.get text_cmp c.args.nodes.now c.args.name.now) c.in-Some.node.now
    c.in-Some.ensures.value)).0
    (same_node c.in-Some.node.now c.unfit.new.self c.unfit.ensures.reads c.unfit.ensures.rest)
