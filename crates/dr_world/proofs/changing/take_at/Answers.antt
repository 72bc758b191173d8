use Rattle.std.proofs.Common.{sym}
use Rattle.std.specs.BTreeMap as tree
use Rattle.dr_base.specs.Texts.{text_cmp}
use Rattle.dr_world.proofs.Called.{there}
use Rattle.dr_world.proofs.Adopting.{takes_if}
use Rattle.dr_world.proofs.changing.take_at.Goals as goal

pub returns-clause-takes : goal.returns-clause-takes
returns-clause-takes g c = takes_if c.args.next.now.plan c.args.next.now.certificate c.args.nodes.now
    (c.get_mut.follows.lender c.go_over.new.node) c.args.name.now c.in-Some.node.now
    c.go_over.new.node c.go_over.result (sym c.in-Some.ensures.value)
    ((c.get_mut.follows.holds c.go_over.new.node).3
    (there (tree.get text_cmp c.args.nodes.now c.args.name.now) c.in-Some.node.now
    c.in-Some.ensures.value)) c.go_over.ensures.goes
