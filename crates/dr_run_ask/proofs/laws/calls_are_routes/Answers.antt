use Rattle.std.proofs.Common.{refl}
use Rattle.dr_run_ask.proofs.laws.calls_are_routes.Goals as goal

pub returns : goal.returns
returns c = (
  (refl, refl, refl),
  (refl, refl, refl),
  (λ form. (refl, refl, refl)),
  (λ form. (refl, refl, refl)),
  (λ form. (refl, refl, refl)),
  (λ form. (refl, refl, refl)),
  (λ form. (refl, refl, refl)),
  (λ form. (refl, refl, refl)),
  (λ form. (refl, refl, refl)),
)
