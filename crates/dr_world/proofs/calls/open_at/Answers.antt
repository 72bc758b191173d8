use Rattle.std.proofs.Common.{sym, ap, ◌∙◌}
use Rattle.std.specs.BTreeMap as tree
use Rattle.dr_base.specs.Texts.{text_cmp}
use Rattle.dr_world.proofs.Called.{opened_there, there, without_hop_there}
use Rattle.dr_world.proofs.calls.open_at.Goals as goal

pub returns-then-not-has_hop : goal.returns-then-not-has_hop
returns-then-not-has_hop g c =
    without_hop_there c.args.nodes.now (c.get_mut.follows.lender c.in-Some.node.now) c.args.name.now c.in-Some.node.now c.in-Some.ensures.value
    ((c.get_mut.follows.holds c.in-Some.node.now).3 (there (tree.get text_cmp c.args.nodes.now c.args.name.now) c.in-Some.node.now c.in-Some.ensures.value)).0 c.args.dest.now c.args.link c.args.now c.site.result.now
    c.site.ensures c.if-not-has_hop.ensures

pub returns : goal.returns
returns g c =
    opened_there c.args.nodes.now (c.get_mut.follows.lender c.open.new.self) c.args.name.now c.in-Some.node.now c.open.new.self c.in-Some.ensures.value
    ((c.get_mut.follows.holds c.open.new.self).3 (there (tree.get text_cmp c.args.nodes.now c.args.name.now) c.in-Some.node.now c.in-Some.ensures.value)).0 c.args.dest.now c.args.link c.args.now c.in_ok-actions.actions c.site.result.now
    c.site.ensures c.if-not-has_hop.ensures c.in_ok-actions.ensures.opens c.in_ok-actions.ensures.desk
