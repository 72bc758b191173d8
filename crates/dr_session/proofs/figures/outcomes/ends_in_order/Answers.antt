use Rattle.std.proofs.Common.{refl}
use Rattle.dr_session.proofs.figures.outcomes.ends_in_order.Goals as goal

pub returns : goal.returns
returns c = λ core rj. record {
  failed = refl;
  failed_alone = refl;
  rejected = refl;
  rejected_alone = refl;
  aborted = refl;
  aborted_alone = refl;
  released = refl;
  closed = refl;
  open_yet = refl;
}
