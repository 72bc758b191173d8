use Rattle.std.specs.FinMap as map
use Rattle.dr_node.specs.Sides.{MeetsEvent, Pushes}
use Rattle.dr_node.proofs.Alone.{only_there}
use Rattle.dr_node.proofs.laws.changes_one_link.Goals as goal

pub returns-clause-input : goal.returns-clause-input
returns-clause-input g c = λ what now link old new s t result h. only_there (MeetsEvent g.P.DeskPort.step what) now link (map.get old link) old new s t result h

pub returns-clause-push : goal.returns-clause-push
returns-clause-push g c = λ now link old new s t result h. only_there (Pushes g.P.DeskPort.step) now link (map.get old link) old new s t result h
