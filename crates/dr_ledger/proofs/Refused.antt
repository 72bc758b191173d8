-- What a call leaves that only read: no data set is lost.
use Rattle.std.proofs.Common.{◌≡◌, sym, subst, inl, inr}
use Rattle.dr_ledger.specs.Bodies.{Bodies, IsNeeded, IsThere, LosesNone}
use Rattle.dr_ledger.specs.Books.{Book}

pub nothing_lost : (b c : Book) (old new : Bodies) → c ≡ b → new ≡ old → LosesNone b old c new
nothing_lost b c old new same still uid needed had = elim had [
  | inl there ↦ subst (λ (x : Bodies). IsThere x uid) (sym still) there
  | inr none ↦ absurd (none (subst (λ (x : Book). IsNeeded x uid) same needed))
]
