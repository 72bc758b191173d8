use Rattle.std.proofs.Common.{sym, ap, ◌∙◌}
use Rattle.std.specs.FinMap as map
use Rattle.dr_node.proofs.Mapped.{seen_at}
use Rattle.dr_node.proofs.links.Links.side.Goals as goal

pub returns : goal.returns
returns c = c.get.ensures.value ∙ (sym (seen_at c.self.inside.sides c.args.link) ∙ ap (λ m. map.get m c.args.link) c.self.view_is)
