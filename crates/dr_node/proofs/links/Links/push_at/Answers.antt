use Rattle.std.proofs.Common.{refl, sym, ap, ◌∙◌}
use Rattle.dr_node.specs.Sides.{Pushes, with_end}
use Rattle.dr_node.proofs.Mapped.{seen}
use Rattle.dr_node.proofs.Linked.{met, unmet, is_there}
use Rattle.dr_node.proofs.links.Links.push_at.Goals as goal

pub returns-in_default : goal.returns-in_default
returns-in_default g c =
    unmet (Pushes g.P.DeskPort.step c.args.at) c.self.inside.sides c.get_mut.follows.lender-at-none c.args.self.now c.args.link c.args.port.now
    c.self.view_is c.in_default.ensures.value (ap seen c.get_mut.follows.holds-at-none)

pub returns : goal.returns
returns g c =
    let new = with_end c.in-Some.side.now c.push.new.self in
    met (Pushes g.P.DeskPort.step c.args.at) c.self.inside.sides (c.get_mut.follows.lender new) c.args.self.now c.args.link c.in-Some.side.now new c.push.result c.args.port.now c.push.new.port
    c.self.view_is c.in-Some.ensures.value refl c.push.ensures ((c.get_mut.follows.holds new).3 (is_there c.self.inside.sides c.args.link c.in-Some.side.now c.in-Some.ensures.value)).0
