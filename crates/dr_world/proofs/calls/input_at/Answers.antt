use Rattle.std.specs.BTreeMap as tree
use Rattle.dr_base.specs.Texts.{text_cmp}
use Rattle.dr_world.proofs.Called.{met_result, there}
use Rattle.dr_world.proofs.calls.input_at.Goals as goal

pub returns : goal.returns
returns g c =
    met_result c.args.nodes.now (c.get_mut.follows.lender c.input.new.self) c.args.name.now c.in-Some.node.now c.input.new.self c.in-Some.ensures.value
    ((c.get_mut.follows.holds c.input.new.self).3 (there (tree.get text_cmp c.args.nodes.now c.args.name.now) c.in-Some.node.now c.in-Some.ensures.value)).0 c.args.link c.args.now c.args.event c.input.result c.input.ensures.does
