use Rattle.std.proofs.Common.{◌≡◌, ◌+◌, arith}
use Rattle.dr_world.proofs.Opens.{opening_as, unopened_as}
use Rattle.dr_world.proofs.world.World.open.Goals as goal

pub returns-in_default-2 : goal.returns-in_default-2
returns-in_default-2 g c = unopened_as c.args.self.now c.args.from.now c.args.to.now c.in-Some.link c.moment-now.result c.in_ok-actions.field-0 c.open_at.new.nodes c.in_default-2.is c.moment-now.ensures.same c.in_ok-actions.ensures

pub returns : goal.returns
returns g c =
    let next : c.in-Some.link ≡ c.args.self.now.opened + 1 = grind (arith, c.in-Some.ensures) in
    opening_as c.args.self.now c.args.from.now c.args.to.now c.in-Some.link c.moment-now.result c.in_ok-actions.field-0 c.in-Some-2.actions c.as_slice.result.now c.open_at.new.nodes c.accept_at.new.nodes c.insert.new.self c.in_ok-wires.wires c.write.new.self
    c.in-Some-2.is c.moment-now.ensures.same next c.in_ok-actions.ensures c.in_ok-accept_at.ensures c.in_ok-wires.ensures.caller c.in_ok-wires.ensures.receiver c.in_ok-wires.ensures.to_caller c.in_ok-wires.ensures.to_receiver c.as_slice.ensures
    c.in_ok-write.ensures c.in_ok-insert.ensures.updates.0
