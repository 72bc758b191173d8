use Rattle.std.specs.BTreeMap as tree
use Rattle.std.specs.Ordering.{nat_cmp}
use Rattle.dr_world.specs.Ends.{named}
use Rattle.dr_world.proofs.Called.{there}
use Rattle.dr_world.proofs.Rewriting.{unwritten, written}
use Rattle.dr_world.proofs.world.World.set_wire.Goals as goal

pub returns-in_default : goal.returns-in_default
returns-in_default g c = unwritten c.args.self.now c.get_mut.follows.lender-at-none c.args.link (named c.args.side) c.args.bytes.now c.in_default.ensures.value c.get_mut.follows.holds-at-none

pub returns : goal.returns
returns g c =
    written c.args.self.now c.args.link (named c.args.side) c.args.bytes.now c.in-Some.wires.now c.rewrite.new.self (c.get_mut.follows.lender c.rewrite.new.self) c.in-Some.ensures.value
    ((c.get_mut.follows.holds c.rewrite.new.self).3 (there (tree.get nat_cmp c.args.self.now.wires c.args.link) c.in-Some.wires.now c.in-Some.ensures.value)).0 c.in_ok-rewrite.ensures
