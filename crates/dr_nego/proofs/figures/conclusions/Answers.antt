use Rattle.std.proofs.Common.{refl, [], ◌∷◌}
use Rattle.dr_base.specs.declared.syntax.Syntax.TheVariants.{Implicit, Explicit}
use Rattle.dr_nego.specs.Figures.{proposal, answered, accepted}
use Rattle.dr_nego.proofs.Faults.{strange_id_is, strange_id_not, strange_syntax_is, strange_syntax_not, too_small_is}
use Rattle.dr_nego.proofs.figures.conclusions.Goals as goal

pub returns : goal.returns
returns c = (
  strange_id_is proposal (answered (accepted 3 Implicit ∷ []) 7) refl,
  (strange_id_not proposal (answered (accepted 1 Implicit ∷ []) 7) refl, strange_syntax_is proposal (answered (accepted 1 Implicit ∷ []) 7) refl),
  (strange_id_not proposal (answered (accepted 1 Explicit ∷ []) 7) refl, strange_syntax_not proposal (answered (accepted 1 Explicit ∷ []) 7) refl, too_small_is 7 refl),
  refl,
  refl,
  refl,
  refl,
)
