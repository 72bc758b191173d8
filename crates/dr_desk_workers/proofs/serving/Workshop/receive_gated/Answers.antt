use Rattle.std.proofs.Common.{refl}
use Rattle.dr_desk_workers.proofs.serving.Workshop.receive_gated.Goals as goal

pub returns : goal.returns
returns g c = (
  c.at_the_door-link.result,
  c.receive_counted-ended.new.link,
  _,
  c.receive_counted-ended.new.port,
  c.at_the_door-link.ensures,
  refl,
  rw c.site.ensures at c.receive_counted-ended.ensures,
)
