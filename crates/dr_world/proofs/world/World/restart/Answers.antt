use Rattle.std.proofs.Common.{sym, ◌∙◌}
use Rattle.dr_world.proofs.Restarting.{nowhere, restarts_as}
use Rattle.dr_world.proofs.world.World.restart.Goals as goal

pub returns-then-not-contains_key : goal.returns-then-not-contains_key
returns-then-not-contains_key g c = nowhere c.args.name.now c.args.self.now (sym c.contains_key.ensures ∙ c.if-not-contains_key.true)

pub returns : goal.returns
returns g c =
    restarts_as c.args.name.now c.args.self.now c.end_each.new.self c.come_up.new.nodes c.forget.new.wires c.in_ok-links.links.items c.as_slice.result.now c.as_slice-2.result.now c.as_slice.ensures.value c.as_slice-2.ensures.value
    (sym c.contains_key.ensures ∙ c.if-not-contains_key.false) c.in_ok-links.ensures c.in_ok-end_each.ensures c.forget.ensures c.come_up.ensures
