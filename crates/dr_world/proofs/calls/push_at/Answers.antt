use Rattle.std.specs.BTreeMap as tree
use Rattle.dr_base.specs.Texts.{text_cmp}
use Rattle.dr_world.proofs.Called.{pushed_result, there}
use Rattle.dr_world.proofs.calls.push_at.Goals as goal

pub returns : goal.returns
returns g c =
    pushed_result c.args.nodes.now (c.get_mut.follows.lender c.push.new.self) c.args.name.now c.in-Some.node.now c.push.new.self c.in-Some.ensures.value
    ((c.get_mut.follows.holds c.push.new.self).3 (there (tree.get text_cmp c.args.nodes.now c.args.name.now) c.in-Some.node.now c.in-Some.ensures.value)).0 c.args.link c.args.now c.push.result c.push.ensures.does
