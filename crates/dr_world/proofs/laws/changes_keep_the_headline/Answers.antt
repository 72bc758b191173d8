use Rattle.dr_world.proofs.Played.{deeds_keep_the_headline}
use Rattle.dr_world.proofs.laws.changes_keep_the_headline.Goals as goal

pub returns : goal.returns
returns g c = deeds_keep_the_headline c.args._world.now
