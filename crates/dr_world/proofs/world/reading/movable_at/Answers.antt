use Rattle.std.specs.BTreeMap as tree
use Rattle.dr_base.specs.Texts.{text_cmp}
use Rattle.dr_world.proofs.Arriving.{kept_apart, kept_none, kept_there}
use Rattle.dr_world.proofs.world.reading.movable_at.Goals as goal

pub returns-in_default : goal.returns-in_default
returns-in_default g c = kept_none c.args.link c.args.wire.now c.args.most c.movable.result (tree.get text_cmp c.args.nodes.now c.args.name.now) c.in_default.ensures.value c.movable.ensures.movable

pub returns-in_default-side : goal.returns-in_default-side
returns-in_default-side g c =
    kept_apart c.args.link c.args.wire.now c.args.most c.movable-in_default-side.result (tree.get text_cmp c.args.nodes.now c.args.name.now) c.in-Some.node.now c.in-Some.ensures.value c.in_default-side.ensures c.movable-in_default-side.ensures.movable

pub returns : goal.returns
returns g c =
    kept_there c.args.link c.args.wire.now c.args.most c.movable-2.result (tree.get text_cmp c.args.nodes.now c.args.name.now) c.in-Some.node.now c.in-Some-side.side.now c.kept.result.now c.in-Some.ensures.value c.in-Some-side.ensures c.kept.ensures c.movable-2.ensures.movable
