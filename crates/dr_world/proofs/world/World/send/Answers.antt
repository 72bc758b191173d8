use Rattle.std.proofs.Common.{refl}
use Rattle.std.specs.BTreeMap as tree
use Rattle.std.specs.Ordering.{nat_cmp}
use Rattle.dr_world_tie.specs.ByteWorlds.{Requestor}
use Rattle.dr_world.specs.Nodes.{push_at}
use Rattle.dr_world.proofs.Called.{there}
use Rattle.dr_world.proofs.Linking.{done_named, unmet}
use Rattle.dr_world.proofs.world.World.send.Goals as goal

pub returns-in_default : goal.returns-in_default
returns-in_default g c = unmet push_at c.args.self.now c.get_mut.follows.lender-at-none c.args.link Requestor c.in_default.ensures.value c.get_mut.follows.holds-at-none

pub returns : goal.returns
returns g c =
    done_named push_at c.args.self.now
    (record { alloc = c.args.self.now.alloc; time = c.args.self.now.time; opened = c.args.self.now.opened; nodes = c.push_at.new.nodes; wires = c.get_mut.follows.lender c.write.new.self; lost = c.args.self.now.lost })
    c.args.link Requestor c.in-Some.wires.now c.write.new.self c.in_ok-actions.actions c.as_slice.result.now c.as_slice-2.result.now c.as_slice.ensures c.as_slice-2.ensures c.in-Some.ensures.value
    ((c.get_mut.follows.holds c.write.new.self).3 (there (tree.get nat_cmp c.args.self.now.wires c.args.link) c.in-Some.wires.now c.in-Some.ensures.value)).0 refl refl c.in_ok-write.ensures
    c.name.result.now c.name.ensures c.moment-now.result c.moment-now.ensures.same c.in_ok-actions.ensures c.note_of.result c.note_of.ensures
