use Rattle.std.proofs.Common.{refl}
use Rattle.std.proofs.lemmas.Bool.{false≢true}
use Rattle.dr_plan_places.proofs.ByName.{named, unnamed}
use Rattle.dr_plan_places.proofs.nodes.has_node.Goals as goal

pub returns-in-Some : goal.returns-in-Some
returns-in-Some c = (λ h. named c.args.nodes.now c.args.name.now c.in-Some.field-0.0 c.in-Some.field-0.1 c.in-Some.ensures, λ h. refl)

pub returns-in-None : goal.returns-in-None
returns-in-None c = (λ h. absurd (false≢true h), λ among. absurd (unnamed c.args.nodes.now c.args.name.now c.in-None.ensures among))
