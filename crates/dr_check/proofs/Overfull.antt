-- The first hop with more pairs than it can carry is so in the plan as in its lines.
use Rattle.std.proofs.Common.{List, get_or}
use Rattle.dr_base.specs.Texts.{Text}
use Rattle.dr_plan_model.specs.Networks.{Network}
use Rattle.dr_plan_model.specs.Plans.{IsWellFormed}
use Rattle.dr_plan_sound.specs.declared.certificate.Line.{Line}
use Rattle.dr_plan_sound.specs.HopPairs.{AreTooMany, IsFirstTooMany}
use Rattle.dr_plan_sound.specs.Ranked.{AreRanked}
use Rattle.dr_plan_sound.proofs.Hopping.{over_goes, goes_over}
use Rattle.dr_check.specs.Shown.{IsOverfull, IsFirstOverfull}

module _ (plan : Network) (formed : IsWellFormed plan) (lines : List Line) (ranked : AreRanked plan lines) where
  overfull : (from to : Text) → AreTooMany lines from to → IsOverfull plan from to
  overfull from to many = (many.0, many.1, (λ k d h. over_goes plan formed lines ranked from to (get_or many.0 k d) (many.2 k d h)), many.3)

  too_many : (from to : Text) → IsOverfull plan from to → AreTooMany lines from to
  too_many from to full = (full.0, full.1, (λ k d h. goes_over plan formed lines ranked from to (get_or full.0 k d) (full.2 k d h)), full.3)

  pub first_overfull : (from to : Text) → IsFirstTooMany lines from to → IsFirstOverfull plan from to
  first_overfull from to many = (overfull from to many.0, λ a b full. many.1 a b (too_many a b full))
