use Rattle.std.proofs.Common.{refl}
use Rattle.std.specs.Fmt.{digits}
use Rattle.dr_store_past.proofs.laws.past_figures_stand.Goals as goal

pub returns : goal.returns
unfolding digits
returns c = record { texts = refl; said = refl; first = refl; none = refl }
