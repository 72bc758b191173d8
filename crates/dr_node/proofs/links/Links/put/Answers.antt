use Rattle.std.proofs.Common.{sym, ap, subst, ◌∙◌, OnOk}
use Rattle.std.specs.FinMap as map
use Rattle.dr_node.proofs.Mapped.{inserted}
use Rattle.dr_node.proofs.links.Links.put.Goals as goal

pub returns-clause-ok : goal.returns-clause-ok
returns-clause-ok c = inserted c.self.inside.sides c.insert.new.self c.args.link c.args.side c.in_ok-insert.ensures.updates.0 ∙ ap (λ m. map.insert m c.args.link c.args.side) c.self.view_is
