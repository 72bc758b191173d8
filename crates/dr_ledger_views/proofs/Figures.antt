-- The figures of an example.
use Rattle.std.proofs.Common.{◌≤◌, zero, suc, [], ◌∷◌, refl, arith, All}
use Rattle.dr_ledger_views.specs.Laws.{ViewFiguresAreRight}

pub figures : ViewFiguresAreRight
figures = record {
  waiting = refl;
  held = refl;
  held_elsewhere = refl;
  all = refl;
  moments = refl;
  first = ((1, omega arith, refl), low);
  not_the_last = λ h. let le = h.1 1 0 (omega arith) in omega (arith, le);
  none = refl;
  page = refl;
  next = refl;
  last = refl;
}
  where
    low : All (λ m. 5 ≤ m) (7 ∷ 5 ∷ [])
    low zero d h = omega arith
    low (suc zero) d h = omega arith
    low (suc (suc k)) d h = absurd (omega (arith, h))
