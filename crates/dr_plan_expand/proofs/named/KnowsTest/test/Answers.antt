use Rattle.std.proofs.lemmas.Bool.{false≢true}
use Rattle.dr_plan_expand.proofs.named.KnowsTest.test.Goals as goal

pub returns-in-None : goal.returns-in-None
returns-in-None c = (λ h. absurd (false≢true h), λ h. absurd (c.in-None.ensures h.0 h.1))
