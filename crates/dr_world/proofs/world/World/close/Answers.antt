use Rattle.std.proofs.Common.{refl, sym, ◌∙◌}
use Rattle.std.specs.BTreeMap as tree
use Rattle.std.specs.Ordering.{nat_cmp}
use Rattle.dr_world.proofs.Called.{there}
use Rattle.dr_world.proofs.Closes.{all_over, closing_as, no_link}
use Rattle.dr_world.proofs.world.World.close.Goals as goal

pub returns-in_default : goal.returns-in_default
returns-in_default g c = no_link c.args.self.now c.get_mut.follows.lender-at-none c.args.link c.in_default.ensures.value c.get_mut.follows.holds-at-none

pub returns-then-are_over : goal.returns-then-are_over
returns-then-are_over g c =
    all_over c.args.self.now
    (record { alloc = c.args.self.now.alloc; time = c.args.self.now.time; opened = c.args.self.now.opened; nodes = c.args.self.now.nodes; wires = c.get_mut.follows.lender c.in-Some.wires.now; lost = c.args.self.now.lost })
    c.args.link c.in-Some.wires.now c.in-Some.ensures.value
    ((c.get_mut.follows.holds c.in-Some.wires.now).3 (there (tree.get nat_cmp c.args.self.now.wires c.args.link) c.in-Some.wires.now c.in-Some.ensures.value)).0 refl refl refl (sym c.are_over.ensures ∙ c.if-are_over.true)

pub returns : goal.returns
returns g c =
    closing_as c.args.self.now c.args.link c.moment-now.result c.in-Some.wires.now c.lose.new.self (c.get_mut.follows.lender c.lose.new.self) c.input_at.new.nodes c.input_at-2.new.nodes c.in_ok-_far._far c.in_ok-_near._near
    c.ended.result c.ended-2.result c.ended.ensures c.ended-2.ensures c.moment-now.ensures.same c.in-Some.ensures.value c.lose.ensures
    ((c.get_mut.follows.holds c.lose.new.self).3 (there (tree.get nat_cmp c.args.self.now.wires c.args.link) c.in-Some.wires.now c.in-Some.ensures.value)).0 c.in_ok-_far.ensures c.in_ok-_near.ensures (sym c.are_over.ensures ∙ c.if-are_over.false)
