use Rattle.std.proofs.Common.{sym, ap, ◌∙◌}
use Rattle.std.specs.FinMap as map
use Rattle.dr_node.proofs.Mapped.{removed}
use Rattle.dr_node.proofs.links.Links.forget.Goals as goal

pub returns : goal.returns
returns c = removed c.self.inside.sides c.remove.new.self c.args.link c.remove.ensures.updates.0 ∙ ap (λ m. map.remove m c.args.link) c.self.view_is
