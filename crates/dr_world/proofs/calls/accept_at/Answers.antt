use Rattle.std.specs.BTreeMap as tree
use Rattle.dr_base.specs.Texts.{text_cmp}
use Rattle.dr_world.proofs.Called.{accepted_there, there}
use Rattle.dr_world.proofs.calls.accept_at.Goals as goal

pub returns : goal.returns
returns g c =
    accepted_there c.args.nodes.now (c.get_mut.follows.lender c.accept.new.self) c.args.name.now c.in-Some.node.now c.accept.new.self c.in-Some.ensures.value
    ((c.get_mut.follows.holds c.accept.new.self).3 (there (tree.get text_cmp c.args.nodes.now c.args.name.now) c.in-Some.node.now c.in-Some.ensures.value)).0 c.args.link c.args.now c.in_ok-accept.ensures.accepts c.in_ok-accept.ensures.desk
