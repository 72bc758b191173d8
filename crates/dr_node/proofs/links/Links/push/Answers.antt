use Rattle.std.proofs.Common.{None, Some, Ok, Err, refl, sym, ap, subst, ◌∙◌}
use Rattle.std.specs.FinMap as map
use Rattle.dr_node.specs.declared.fault.NodeFault.TheVariants.{Memory}
use Rattle.dr_node.specs.Sides.{DoesIn, Pushes, Sides}
use Rattle.dr_node.proofs.Linked.{as_met, done, lost, unknown}
use Rattle.dr_node.proofs.links.Links.push.Goals as goal

pub returns-in_default : goal.returns-in_default
returns-in_default g c =
    unknown (Pushes g.P.DeskPort.step) c.args.now c.args.link (map.get c.args.self.now c.args.link) c.args.self.now c.push_at.new.self c.args.port.now c.push_at.new.port
    (as_met (Pushes g.P.DeskPort.step) c.args.now c.args.link c.others-others.result c.args.self.now c.push_at.new.self c.args.port.now c.push_at.new.port c.push_at.result None c.others-others.ensures c.in_default.is c.push_at.ensures)

pub returns-in_default-answer : goal.returns-in_default-answer
returns-in_default-answer g c =
    let P : Sides → Type 0 = λ new. DoesIn (Pushes g.P.DeskPort.step) c.args.now c.args.link (map.get c.args.self.now c.args.link) c.args.self.now c.args.port.now (Err Memory) new c.push_at.new.port in
    subst P (sym c.forget.ensures)
    (lost (Pushes g.P.DeskPort.step) c.args.now c.args.link (map.get c.args.self.now c.args.link) c.args.self.now c.push_at.new.self c.args.port.now c.push_at.new.port c.in_default-answer.field-0
    (as_met (Pushes g.P.DeskPort.step) c.args.now c.args.link c.others-others.result c.args.self.now c.push_at.new.self c.args.port.now c.push_at.new.port c.push_at.result (Some (Err c.in_default-answer.field-0)) c.others-others.ensures (c.in-Some.is ∙ ap Some c.in_default-answer.is) c.push_at.ensures))

pub returns : goal.returns
returns g c =
    done (Pushes g.P.DeskPort.step) c.args.now c.args.link (map.get c.args.self.now c.args.link) c.args.self.now c.push_at.new.self c.args.port.now c.push_at.new.port c.in-Ok.actions
    (as_met (Pushes g.P.DeskPort.step) c.args.now c.args.link c.others-others.result c.args.self.now c.push_at.new.self c.args.port.now c.push_at.new.port c.push_at.result (Some (Ok c.in-Ok.actions)) c.others-others.ensures (c.in-Some.is ∙ ap Some c.in-Ok.is) c.push_at.ensures)
