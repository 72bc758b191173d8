use Rattle.std.proofs.Common.{refl}
use Rattle.dr_session.proofs.figures.outcomes.deliveries.Goals as goal

pub returns : goal.returns
returns c = λ core p. record {
  first = refl;
  last = refl;
  enough = refl;
  asked = refl;
  dry = refl;
  dry_at_last = refl;
  awaiting = refl;
  leaving = refl;
}
