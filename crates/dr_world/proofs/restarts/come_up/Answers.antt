use Rattle.std.specs.BTreeMap as tree
use Rattle.dr_base.specs.Texts.{text_cmp}
use Rattle.dr_world.proofs.Called.{there}
use Rattle.dr_world.proofs.Restarting.{comes_up}
use Rattle.dr_world.proofs.restarts.come_up.Goals as goal

pub returns : goal.returns
returns g c =
    comes_up c.args.nodes.now (c.get_mut.follows.lender c.restart.new.self) c.args.name.now c.in-Some.node.now c.restart.new.self c.in-Some.ensures.value
    ((c.get_mut.follows.holds c.restart.new.self).3 (there (tree.get text_cmp c.args.nodes.now c.args.name.now) c.in-Some.node.now c.in-Some.ensures.value)).0 c.restart.ensures.links c.restart.ensures.desk
